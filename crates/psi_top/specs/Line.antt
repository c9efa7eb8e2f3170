-- The lines that are put to the sink of errors. This project's own.
use Rattle.std.specs.Prelude.{ℕ, zero, suc, ◌-◌, List, [], ◌∷◌, ◌++◌, codes, slice_index_or, Option, None, Some}
use Rattle.std.specs.Fmt.{decimal}
use Rattle.text_tokens.specs.declared.token.Position.{Position}
use Rattle.shape_check.specs.Rules.{greatest}

abbrev pub usage_line : List ℕ
usage_line = codes "usage: psic check FILE | show dnf|onf|nest|source FILE | compile FILE | run ASM DATA\n"

abbrev pub cannot_read_line : List ℕ → List ℕ
cannot_read_line name = codes "psic: cannot read " ++ name ++ codes "\n"

abbrev pub cannot_write_line : List ℕ
cannot_write_line = codes "psic: cannot write\n"

abbrev pub no_memory_line : List ℕ
no_memory_line = codes "psic: no memory\n"

-- a number between two texts
abbrev pub counted : List ℕ → ℕ → List ℕ → List ℕ
counted front number back = front ++ decimal number ++ back

-- the file of this name has more bytes than this limit allows
abbrev pub longer_line : List ℕ → ℕ → ℕ → List ℕ
longer_line name which most = name ++ counted (codes ": limit ") which (codes ": ") ++ counted (codes "longer than ") most (codes " bytes\n")

-- what is wrong, by its kind, its number and its words
abbrev pub reason : List ℕ → ℕ → List ℕ → List ℕ
reason kind number words = kind ++ decimal number ++ codes ": " ++ words ++ codes "\n"

-- a limit, the value that exceeds it, and the greatest value
abbrev pub excess : ℕ → ℕ → ℕ → List ℕ
excess which value most = codes "limit " ++ decimal which ++ codes ": " ++ decimal value ++ codes " exceeds " ++ decimal most ++ codes "\n"

-- a place of the file of this name
abbrev pub place : List ℕ → Position → List ℕ
place name at = name ++ codes ":" ++ decimal at.line ++ codes ":" ++ decimal at.column ++ codes ": "

abbrev pub not_built_line : List ℕ → Position → List ℕ
not_built_line name at = place name at ++ codes "not built\n"

-- why a source is refused, by the number of the cause, from 1 on
abbrev pub causes : List (List ℕ)
causes =
    codes "these bytes form no token" ∷ codes "the number is out of range" ∷ codes "the name is too long"
    ∷ codes "the version psi 1 is wanted" ∷ codes "a statement is wanted" ∷ codes "an out statement is wanted"
    ∷ codes "a name is wanted" ∷ codes "the sign = is wanted" ∷ codes "an expression is wanted" ∷ codes "the sign ) is wanted"
    ∷ codes "the sign < is wanted" ∷ codes "a number is wanted" ∷ codes "an operator is wanted"
    ∷ codes "the expression is nested too deep" ∷ []

-- the words for a cause
unfoldable pub cause_words : ℕ → List ℕ
cause_words cause = slice_index_or causes (cause - 1) []

-- the words for a shape rule, by its number, from 1 on
abbrev pub rules : List (List ℕ)
rules =
    codes "the name is already declared" ∷ codes "the name is not declared" ∷ codes "an extent is negative"
    ∷ codes "the length is negative" ∷ codes "the shapes differ" ∷ codes "the index is too long"
    ∷ codes "the index is outside the shape" ∷ codes "the list is too long" ∷ codes "more is taken than there is"
    ∷ codes "the list is too long" ∷ codes "more is dropped than there is" ∷ codes "an axis is wanted"
    ∷ codes "an axis is wanted" ∷ codes "the list has the wrong length" ∷ codes "the list is no permutation"
    ∷ codes "the dimensions differ" ∷ codes "an axis is wanted" ∷ codes "the extents after the first differ"
    ∷ codes "an extent is negative" ∷ codes "the totals differ" ∷ codes "an axis is wanted"
    ∷ codes "the inner extents differ" ∷ codes "an axis is wanted" ∷ codes "an axis is wanted" ∷ []

unfoldable pub rule_words : ℕ → List ℕ
rule_words zero = []
rule_words (suc before) = slice_index_or rules before []

abbrev pub rule_line : List ℕ → Position → ℕ → List ℕ
rule_line name at rule = place name at ++ reason (codes "rule ") rule (rule_words rule)

-- a place of the file, or the file as a whole
abbrev pub place_or_whole : List ℕ → Option Position → List ℕ
place_or_whole name None = name ++ codes ": "
place_or_whole name (Some at) = place name at

abbrev pub exceeded_line : List ℕ → Option Position → ℕ → ℕ → List ℕ
exceeded_line name at which value = place_or_whole name at ++ excess which value (greatest which)

abbrev pub text_line : List ℕ → Position → ℕ → List ℕ
text_line name at cause = place name at ++ reason (codes "text ") cause (cause_words cause)

-- a line of the file of this name
abbrev pub line_place : List ℕ → ℕ → List ℕ
line_place name line = name ++ codes ":" ++ decimal line ++ codes ": "

-- why an assembly text is refused, by the number of the cause, from 1 on
abbrev pub assembly_causes : List (List ℕ)
assembly_causes =
    codes "the header is missing" ∷ codes "the steps are wanted" ∷ codes "the spill is wanted"
    ∷ codes "the area row is malformed" ∷ codes "the area is repeated" ∷ codes "this is no line of the machine"
    ∷ codes "the operands are malformed" ∷ codes "the immediate is out of range" ∷ codes "the label is repeated"
    ∷ codes "the label is not defined" ∷ codes "the target is too far" ∷ codes "the area is too large" ∷ []

unfoldable pub assembly_words : ℕ → List ℕ
assembly_words cause = slice_index_or assembly_causes (cause - 1) []

abbrev pub assembly_line : List ℕ → ℕ → ℕ → List ℕ
assembly_line name line cause = line_place name line ++ reason (codes "assembly ") cause (assembly_words cause)

-- why an array file is refused, by the number of the cause, from 1 on
abbrev pub data_causes : List (List ℕ)
data_causes =
    codes "these bytes form no token" ∷ codes "the number is out of range" ∷ codes "an array is wanted"
    ∷ codes "an extent is malformed" ∷ codes "the array is not declared" ∷ codes "the array is repeated"
    ∷ codes "the shape differs" ∷ codes "a value is wanted" ∷ codes "an input is missing" ∷ []

unfoldable pub data_words : ℕ → List ℕ
data_words cause = slice_index_or data_causes (cause - 1) []

abbrev pub data_line : List ℕ → ℕ → ℕ → List ℕ
data_line name line cause = line_place name line ++ reason (codes "data ") cause (data_words cause)

-- the greatest number of words of a block in which a text is run
abbrev pub greatest_block : ℕ
greatest_block = 4194304

-- more words are wanted for the block of an assembly text than it may have
abbrev pub block_line : List ℕ → ℕ → List ℕ
block_line name words = place_or_whole name None ++ excess 10 words greatest_block

-- where and why a run stopped
abbrev pub access_line : List ℕ → ℕ → ℕ → List ℕ
access_line name line address = line_place name line ++ codes "stopped: access " ++ decimal address ++ codes "\n"

abbrev pub off_text_line : List ℕ → ℕ → List ℕ
off_text_line name address = name ++ codes ": stopped: off text " ++ decimal address ++ codes "\n"

abbrev pub trap_line : List ℕ → ℕ → List ℕ
trap_line name line = line_place name line ++ codes "stopped: trap\n"

abbrev pub budget_line : List ℕ → ℕ → List ℕ
budget_line name steps = name ++ codes ": stopped: budget " ++ decimal steps ++ codes "\n"
