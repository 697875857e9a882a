-- The classes of bytes.
use Rattle.std.specs.Prelude.{ℕ, Bool, not, ◌&&◌, ◌||◌, ◌==◌, nat_lt}

-- white space: tab, line end, return, space
unfoldable pub is_blank : ℕ → Bool
is_blank byte = byte == 9 || byte == 10 || byte == 13 || byte == 32

-- what may stand in a word: 33 to 126, and none of ( ) " ;
unfoldable pub is_word_byte : ℕ → Bool
is_word_byte byte =
    nat_lt 32 byte && nat_lt byte 127 && not (byte == 40 || byte == 41 || byte == 34 || byte == 59)

-- what may stand in a text for itself: 32 to 126, and neither of " and \
unfoldable pub is_text_byte : ℕ → Bool
is_text_byte byte = nat_lt 31 byte && nat_lt byte 127 && not (byte == 34 || byte == 92)

-- what may stand in a text behind \, and only there: " and \
unfoldable pub is_escaped_byte : ℕ → Bool
is_escaped_byte byte = byte == 34 || byte == 92
