-- What the borrowed parts of the code stand for.
use Rattle.std.specs.Prelude.{Option, Some, None, option_copied}
use Rattle.pst_runs.specs.Forms as spec
use Rattle.pst_runs.specs.declared.parts.ItemParts.{ItemParts}
use Rattle.pst_runs.specs.declared.parts.Sections.{Sections}

abbrev pub shown : ItemParts → spec.Parts
shown parts =
    record { read = parts.read; replies = option_copied parts.replies; times = option_copied parts.times }

abbrev pub shown_option : Option ItemParts → Option spec.Parts
shown_option None = None
shown_option (Some parts) = Some (shown parts)

abbrev pub shown_sections : Sections → spec.Sections
shown_sections sections = record { front = sections.front.now; suffix = option_copied sections.suffix }
