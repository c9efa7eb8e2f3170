-- The lines of a text, by what stands before and behind its first line feed.
use Rattle.std.proofs.Common.{◌≡◌, ℕ, suc, ◌<◌, List, [], ◌∷◌, ◌++◌, length, drop, refl, sym, ap, ◌∙◌, arith}
use Rattle.std.specs.Prelude.{◌==◌, cond}
use Rattle.std.specs.Str.Lines.{lines, lines_of_parts, strip_carriage_return}
use Rattle.rv_reader.specs.Cuts.{until, since}
use Rattle.rv_reader.proofs.CutLemmas.{cut}
use Rattle.rv_reader.proofs.MarkLemmas.{parts_behind, split_next}
use Rattle.std.proofs.lemmas.Bool.{ne_eqb}
use Rattle.std.proofs.lemmas.List.{append-nil}

empty_list : {X : Type 0} (items : List X) → length items ≡ 0 → items ≡ []
empty_list [] e = refl
empty_list (item ∷ items) e = absurd (omega arith)

pub no_line : (text : List ℕ) → length text ≡ 0 → lines text ≡ []
no_line text e = ap lines (empty_list text e)

lone_part : (byte : ℕ) (bytes part : List ℕ) → byte ∷ bytes ≡ part → lines_of_parts (part ∷ []) ≡ part ∷ []
lone_part byte bytes part e = rw (sym e) (ap (λ b. cond b [] ((byte ∷ bytes) ∷ [])) (ne_eqb (suc (length bytes)) 0 (λ h. omega arith)))

-- the last line, where no line feed is left
last_alone : (text : List ℕ) → 0 < length text → since (λ byte. byte == 10) text ≡ [] → lines text ≡ until (λ byte. byte == 10) text ∷ []
last_alone [] some none = absurd (omega arith)
last_alone (byte ∷ bytes) some none =
    let whole : byte ∷ bytes ≡ until (λ b. b == 10) (byte ∷ bytes) =
    (cut (λ b. b == 10) (byte ∷ bytes)).whole ∙ ap (λ t. until (λ b. b == 10) (byte ∷ bytes) ++ t) none ∙ append-nil (until (λ b. b == 10) (byte ∷ bytes)) in
    ap lines_of_parts (split_next (λ b. b == 10) (byte ∷ bytes))
    ∙ ap (λ t. lines_of_parts (until (λ b. b == 10) (byte ∷ bytes) ∷ parts_behind (λ b. b == 10) t)) none
    ∙ lone_part byte bytes (until (λ b. b == 10) (byte ∷ bytes)) whole

pub last_line : (text : List ℕ) → 0 < length text → length (since (λ byte. byte == 10) text) ≡ 0 → lines text ≡ until (λ byte. byte == 10) text ∷ lines (since (λ byte. byte == 10) text)
last_line text some none =
    let empty = empty_list (since (λ byte. byte == 10) text) none in
    last_alone text some empty ∙ ap (λ t. until (λ byte. byte == 10) text ∷ lines t) (sym empty)

-- the first line, and the lines behind its line feed
first_of : (text rest : List ℕ) → since (λ byte. byte == 10) text ≡ rest → 0 < length rest → lines text ≡ strip_carriage_return (until (λ byte. byte == 10) text) ∷ lines (drop 1 rest)
first_of text [] is some = absurd (omega arith)
first_of text (feed ∷ behind) is some =
    ap lines_of_parts (split_next (λ b. b == 10) text)
    ∙ ap (λ t. lines_of_parts (until (λ b. b == 10) text ∷ parts_behind (λ b. b == 10) t)) is
    ∙ ap (λ parts. lines_of_parts (until (λ b. b == 10) text ∷ parts)) (split_next (λ b. b == 10) behind)
    ∙ ap (λ parts. strip_carriage_return (until (λ b. b == 10) text) ∷ lines_of_parts parts) (sym (split_next (λ b. b == 10) behind))

pub first_line : (text : List ℕ) → 0 < length (since (λ byte. byte == 10) text) → lines text ≡ strip_carriage_return (until (λ byte. byte == 10) text) ∷ lines (drop 1 (since (λ byte. byte == 10) text))
first_line text some = first_of text (since (λ byte. byte == 10) text) refl some
