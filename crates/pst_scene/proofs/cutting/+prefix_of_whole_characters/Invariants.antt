use Rattle.pst_scene.proofs.cutting.+prefix_of_whole_characters.Given as goal

abbrev pub decreases-prefix_of_whole_characters : goal.decreases-prefix_of_whole_characters
decreases-prefix_of_whole_characters l = l.end
