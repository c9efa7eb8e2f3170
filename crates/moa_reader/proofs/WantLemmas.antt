-- What each want takes, and what is stuck there.
use Rattle.std.proofs.Common.{◌≡◌, ℕ, zero, suc, Bool, true, false, List, ◌∷◌, refl, sym, ap, ◌∙◌}
use Rattle.std.specs.Option.{is_some}
use Rattle.std.specs.Prelude.{ℤ, pos, if◌then◌else◌}
use Rattle.std.specs.declared.option.Option.TheVariants.{None, Some}
use Rattle.moa_tree.specs.declared.operator.Op.{Op}
use Rattle.moa_tree.specs.declared.tree.Version.{Version}
use Rattle.moa_tree.specs.declared.tree.Version.TheVariants.{First}
use Rattle.moa_tree.specs.Expected.{Want, cause_of, next, stuck}
use Rattle.moa_tree.specs.Refusals.{is_end}
use Rattle.moa_tree.specs.Vocabulary.{Lexeme, is_fold, version_number, version_numbered}
use Rattle.moa_reader.specs.declared.words.Declaration.{Declaration}
use Rattle.moa_reader.specs.declared.words.Declaration.TheVariants as declaration
use Rattle.moa_reader.specs.Statements.{declared_by, is_psi, word_of}
use Rattle.moa_reader.specs.Lexemes.{fold_in, name_in, number_in, operator_in, version_in}

pub number_taken : (lexeme : Lexeme) (value : ℤ) → number_in lexeme ≡ Some value → lexeme ≡ Lexeme.Number value
number_taken (Lexeme.Number other) value e = cc
number_taken _ value e = absurd (cc e)

pub number_stuck : (lexeme : Lexeme) (wants : List Want) → number_in lexeme ≡ None → next (Want.ANumber ∷ wants) lexeme ≡ stuck
number_stuck (Lexeme.Number other) wants e = absurd (cc e)
number_stuck _ wants e = refl

pub operator_taken : (lexeme : Lexeme) (op : Op) → operator_in lexeme ≡ Some op → lexeme ≡ Lexeme.Binary op
operator_taken (Lexeme.Binary other) op e = cc
operator_taken _ op e = absurd (cc e)

pub operator_stuck : (lexeme : Lexeme) (wants : List Want) → operator_in lexeme ≡ None → next (Want.AnOp ∷ wants) lexeme ≡ stuck
operator_stuck (Lexeme.Binary other) wants e = absurd (cc e)
operator_stuck _ wants e = refl

fold_chosen : (test : Bool) (other op : Op) → (if test then Some other else None) ≡ Some op → (other ≡ op) × (test ≡ true)
fold_chosen true other op e = (cc, refl)
fold_chosen false other op e = absurd (cc e)

no_fold : (test : Bool) (other : Op) (wants : List Want) → (if test then Some other else None) ≡ None → (if test then wants else stuck) ≡ stuck
no_fold true other wants e = absurd (cc e)
no_fold false other wants e = refl

pub fold_taken : (lexeme : Lexeme) (op : Op) → fold_in lexeme ≡ Some op → (lexeme ≡ Lexeme.Binary op) × (is_fold op ≡ true)
fold_taken (Lexeme.Binary other) op e = let found = fold_chosen (is_fold other) other op e in (ap Lexeme.Binary found.0, ap is_fold (sym found.0) ∙ found.1)
fold_taken _ op e = absurd (cc e)

pub fold_stuck : (lexeme : Lexeme) (wants : List Want) → fold_in lexeme ≡ None → next (Want.AFold ∷ wants) lexeme ≡ stuck
fold_stuck (Lexeme.Binary op) wants e = no_fold (is_fold op) op wants e
fold_stuck _ wants e = refl

pub name_taken : (lexeme : Lexeme) (name : List ℕ) → name_in lexeme ≡ Some name → lexeme ≡ Lexeme.Name name
name_taken (Lexeme.Name other) name e = cc
name_taken _ name e = absurd (cc e)

pub name_stuck : (lexeme : Lexeme) (wants : List Want) → name_in lexeme ≡ None → next (Want.AName ∷ wants) lexeme ≡ stuck
name_stuck (Lexeme.Name other) wants e = absurd (cc e)
name_stuck _ wants e = refl

-- the number of a version is that of no other
numbered_is : (value : ℤ) (version : Version) → version_numbered value ≡ Some version → value ≡ version_number version
numbered_is (pos (suc zero)) First e = refl
numbered_is _ version e = absurd (cc e)

pub version_taken : (lexeme : Lexeme) (version : Version) → version_in lexeme ≡ Some version → lexeme ≡ Lexeme.Number (version_number version)
version_taken (Lexeme.Number value) version e = ap Lexeme.Number (numbered_is value version e)
version_taken _ version e = absurd (cc e)

pub version_stuck : (lexeme : Lexeme) (wants : List Want) → version_in lexeme ≡ None → next (Want.VersionNumber ∷ wants) lexeme ≡ stuck
version_stuck (Lexeme.Number value) wants e = ap (λ found. if is_some found then wants else stuck) e
version_stuck _ wants e = refl

pub word_stuck : (lexeme : Lexeme) (wants : List Want) → is_psi lexeme ≡ false → next (Want.Version ∷ wants) lexeme ≡ stuck
word_stuck Lexeme.Psi wants h = absurd (cc h)
word_stuck _ wants h = refl

pub word_taken : (lexeme : Lexeme) → is_psi lexeme ≡ true → lexeme ≡ Lexeme.Psi
word_taken Lexeme.Psi h = refl
word_taken _ h = absurd (cc h)

pub declaration_taken : (lexeme : Lexeme) (what : Declaration) → declared_by lexeme ≡ Some what → lexeme ≡ word_of what
declaration_taken Lexeme.In declaration.Input e = refl
declaration_taken Lexeme.In declaration.Name e = absurd (cc e)
declaration_taken Lexeme.In declaration.Output e = absurd (cc e)
declaration_taken Lexeme.Let declaration.Input e = absurd (cc e)
declaration_taken Lexeme.Let declaration.Name e = refl
declaration_taken Lexeme.Let declaration.Output e = absurd (cc e)
declaration_taken Lexeme.Out declaration.Input e = absurd (cc e)
declaration_taken Lexeme.Out declaration.Name e = absurd (cc e)
declaration_taken Lexeme.Out declaration.Output e = refl
declaration_taken _ what e = absurd (cc e)

pub declaration_stuck : (lexeme : Lexeme) (seen : Bool) (wants : List Want) → declared_by lexeme ≡ None → is_end lexeme ≡ false
    → next (Want.Items seen ∷ wants) lexeme ≡ stuck
declaration_stuck Lexeme.In seen wants e h = absurd (cc e)
declaration_stuck Lexeme.Let seen wants e h = absurd (cc e)
declaration_stuck Lexeme.Out seen wants e h = absurd (cc e)
declaration_stuck Lexeme.End seen wants e h = absurd (cc h)
declaration_stuck _ seen wants e h = refl

pub declaration_cause : (lexeme : Lexeme) (seen : Bool) (wants : List Want) → is_end lexeme ≡ false → cause_of (Want.Items seen ∷ wants) lexeme ≡ 5
declaration_cause lexeme seen wants h = ap (λ test. if test then 6 else 5) h
