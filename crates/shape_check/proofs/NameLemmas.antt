-- The names so far, with what is known of each.
use Rattle.std.proofs.Common.{◌≡◌, ℕ, Bool, true, false, cond, Decides, List, [], ◌∷◌, ◌++◌, refl, ap, sym, subst, ◌∙◌}
use Rattle.std.specs.Prelude.{Option, None, Some, ◌||◌}
use Rattle.std.specs.Map.{lookup}
use Rattle.std.specs.Str.{bytes_eq}
use Rattle.std.proofs.lemmas.Bool.Decides.{same_from_decides}
use Rattle.std.proofs.lemmas.Slice.Eq.{bytes_eq-Decides}
use Rattle.shapes_core.specs.Name.{IsName}
use Rattle.shape_check.specs.declared.known.Known.{Known}
use Rattle.shape_check.specs.Costs.{Priced, Prices, price, shapes_of}
use Rattle.shape_check.specs.Judged.{AreNames, IsFound, StandsFor, found}
use Rattle.shape_check.specs.Rules.{is_declared}

bytes_eq-sym : (xs ys : List ℕ) → bytes_eq xs ys ≡ bytes_eq ys xs
bytes_eq-sym xs ys =
    let d = bytes_eq-Decides ys xs in
    let turned : Decides (bytes_eq ys xs) (xs ≡ ys) = (λ e. sym (d.0 e), λ e. d.1 (sym e)) in
    same_from_decides (bytes_eq xs ys) (bytes_eq ys xs) (bytes_eq-Decides xs ys) turned

pub found_lookup : (entries : List (List ℕ × Known)) (name : List ℕ) → found entries name ≡ lookup (bytes_eq name) entries
found_lookup [] name = refl
found_lookup (entry ∷ entries) name =
    ap (λ b. cond b (Some entry.1) (found entries name)) (bytes_eq-sym entry.0 name)
    ∙ ap (λ o. cond (bytes_eq name entry.0) (Some entry.1) o) (found_lookup entries name)

-- a name that comes last is found where none of the others is it
found-more : (names : List (List ℕ × Known)) (name : List ℕ) (known : Known) (asked : List ℕ)
    → found (names ++ (name, known) ∷ []) asked ≡ cond (bytes_eq name asked) (elim (found names asked) [ None ↦ Some known | Some k ↦ Some k ]) (found names asked)
found-more [] name known asked = refl
found-more (entry ∷ names) name known asked = by (bytes_eq entry.0 asked) (bytes_eq name asked) (found-more names name known asked)
  where
    by : (b here : Bool) → found (names ++ (name, known) ∷ []) asked ≡ cond here (elim (found names asked) [ None ↦ Some known | Some k ↦ Some k ]) (found names asked)
        → cond b (Some entry.1) (found (names ++ (name, known) ∷ []) asked)
        ≡ cond here (elim (cond b (Some entry.1) (found names asked)) [ None ↦ Some known | Some k ↦ Some k ]) (cond b (Some entry.1) (found names asked))
    by true true rest = refl
    by true false rest = refl
    by false true rest = rest
    by false false rest = rest

-- what is known of the names goes on with a new one
pub names_more : (names : List (List ℕ × Known)) (prices : Prices) (name : List ℕ) (known : Known) (priced : Priced)
    → found names name ≡ None → StandsFor known priced → AreNames names prices → AreNames (names ++ (name, known) ∷ []) ((name, priced) ∷ prices)
names_more names prices name known priced absent stands are asked named =
    subst (IsFound ((name, priced) ∷ prices) asked) (sym (found-more names name known asked)) (by (bytes_eq name asked) refl)
  where
    by : (b : Bool) → bytes_eq name asked ≡ b
        → IsFound ((name, priced) ∷ prices) asked (cond (bytes_eq name asked) (elim (found names asked) [ None ↦ Some known | Some k ↦ Some k ]) (found names asked))
    by true e =
        let same : name ≡ asked = (bytes_eq-Decides name asked).0 e in
        let none : found names asked ≡ None = ap (found names) (sym same) ∙ absent in
        subst (λ b. IsFound ((name, priced) ∷ prices) asked (cond b (elim (found names asked) [ None ↦ Some known | Some k ↦ Some k ]) (found names asked))) (sym e)
        (subst (λ o. IsFound ((name, priced) ∷ prices) asked (elim o [ None ↦ Some known | Some k ↦ Some k ])) (sym none) (
          ap (λ b. b || is_declared (shapes_of prices) asked) e,
          subst (StandsFor known) (sym (ap (λ b. cond b priced (price prices asked)) e)) stands,
        ))
    by false e =
        subst (λ b. IsFound ((name, priced) ∷ prices) asked (cond b (elim (found names asked) [ None ↦ Some known | Some k ↦ Some k ]) (found names asked))) (sym e)
        (later (found names asked) (are asked named))
      where
        later : (o : Option Known) → IsFound prices asked o → IsFound ((name, priced) ∷ prices) asked o
        later None h = ap (λ b. b || is_declared (shapes_of prices) asked) e ∙ h
        later (Some k) h = (
          ap (λ b. b || is_declared (shapes_of prices) asked) e ∙ h.0,
          subst (StandsFor k) (sym (ap (λ b. cond b priced (price prices asked)) e)) h.1,
        )

-- a name is declared where it is found
pub found_none : (names : List (List ℕ × Known)) (prices : Prices) (name : List ℕ) → IsName name → AreNames names prices
    → found names name ≡ None → is_declared (shapes_of prices) name ≡ false
found_none names prices name named are none = subst (IsFound prices name) none (are name named)

pub found_some : (names : List (List ℕ × Known)) (prices : Prices) (name : List ℕ) (known : Known) → IsName name → AreNames names prices
    → found names name ≡ Some known → is_declared (shapes_of prices) name ≡ true
found_some names prices name known named are some = (subst (IsFound prices name) some (are name named)).0

pub no_names : AreNames [] []
no_names name named = refl
