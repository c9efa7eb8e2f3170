-- What separates tokens, and where a text may be cut between them. This project's own.
use Rattle.std.specs.Prelude.{◌≡◌, ℕ, Bool, false, ◌&&◌, ◌||◌, List, [], ◌∷◌, ◌++◌, length, ◌<◌, ◌==◌, IsTrue}
use Rattle.std.specs.List.{list_all}
use Rattle.text_tokens.specs.Bytes.{is_blank, is_run_byte, is_within_line}

-- blanks, line ends and whole comments, in any order
pub data Separator : List ℕ → Type 0 where
  nothing : Separator []
  blank : (byte : ℕ) (others : List ℕ) → IsTrue (is_blank byte) → Separator others → Separator (byte ∷ others)
  line_end : (others : List ℕ) → Separator others → Separator (10 ∷ others)
  comment : (text others : List ℕ) → IsTrue (list_all is_within_line text) → Separator others → Separator (35 ∷ (text ++ 10 ∷ others))

-- one byte of them or more
pub record IsGap (bytes : List ℕ) : Type 0 where
  pub separator : Separator bytes
  pub nonempty : 0 < length bytes

-- some `#` has no line feed after it, so that what follows these bytes may belong to a comment
abbrev pub has_open_comment : List ℕ → Bool
has_open_comment [] = false
has_open_comment (first ∷ others) = (first == 35 && list_all is_within_line others) || has_open_comment others

-- the first byte is one of a run
abbrev pub begins_in_run : List ℕ → Bool
begins_in_run [] = false
begins_in_run (first ∷ others) = is_run_byte first

-- the last byte is one of a run
abbrev pub ends_in_run : List ℕ → Bool
ends_in_run [] = false
ends_in_run (first ∷ []) = is_run_byte first
ends_in_run (first ∷ second ∷ others) = ends_in_run (second ∷ others)

-- no comment and no run goes on from the front into the back
pub record IsCut (front back : List ℕ) : Type 0 where
  pub no_comment : has_open_comment front ≡ false
  pub no_run : (ends_in_run front && begins_in_run back) ≡ false
