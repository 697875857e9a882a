-- Bytes that may be in a page.
use Rattle.std.specs.Prelude.{ℕ, ◌<◌, ◌≢◌, List}
use Rattle.std.specs.List.{All}

-- a byte of ASCII that is none of `<`, `>`, `&` and DEL
pub record IsPageByte (byte : ℕ) : Type 0 where
  pub ascii : byte < 127
  pub no_opening : byte ≢ 60
  pub no_closing : byte ≢ 62
  pub no_entity : byte ≢ 38

-- a text that can be in a page as it is
pub record IsPageText (text : List ℕ) : Type 0 where
  pub each : All IsPageByte text
