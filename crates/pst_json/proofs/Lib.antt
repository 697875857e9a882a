mod PageTexts
