use Rattle.std.specs.Prelude.{◌-◌, ℕ, List, drop, length, pos, slice_index}
use Rattle.std.proofs.lemmas.Bool.{eqb-true}
use Rattle.moa_tree.specs.Expr.{Expr, Two, Psi, Take, Drop, Reverse, Permute, Cat, Inner, Reduce}
use Rattle.moa_tree.specs.ShapeOf.{shape_of}
use Rattle.normal_form.specs.declared.entry.Entry.TheVariants.{At}
use Rattle.normal_form.specs.Cutting.{Scope}
use Rattle.normal_form.specs.Keeps.{IsWithin}
use Rattle.psi_rules.specs.Operands.{IsAccepted}
use Rattle.psi_rules.proofs.LawLemmas.{some-axis}
use Rattle.psi_rules.proofs.WithinLemmas.{both-some, drop-within, join-alike, psi-within, reverse-within, take-within}
use Rattle.psi_rules.proofs.ZipLemmas.{first-zip, insert-zip, last-zip, own-zip, permute-zip, reverse-zip, zip-split}
use Rattle.psi_rules.proofs.keeping_laws.operands_stay_within.Goals as goal

pub returns : goal.returns
returns c = λ shapes room.
    let known = c.operands_are_accepted.ensures in
    let shaped = λ (expr : Expr) (accepted : IsAccepted shapes expr). c.verdicts_are_shapes.ensures.within shapes 0 expr
    (shape_of shapes expr) accepted in
    let each = λ (scope : Scope). IsWithin room scope in
    record {
      shaped = shaped;
      two = λ op left right h.
          let s = shape_of shapes left in
          let t = shape_of shapes right in
          let k = known.binary shapes 0 0 op left right (shape_of shapes (Two op left right)) h in (
            (λ scope entries inside. (own-zip (each scope) s t k.2 entries inside).0),
            (λ scope entries inside. (own-zip (each scope) s t k.2 entries inside).1),
          );
      psi = λ list of h.
          let k = known.psi shapes 0 0 list of (shape_of shapes (Psi list of)) h in psi-within room list (shape_of shapes of) k.1 k.2;
      takes = λ list of h.
          let k = known.takes shapes 0 0 list of (shape_of shapes (Take list of)) h in
          take-within room list (shape_of shapes of) k.2 (shaped of k.0);
      drops = λ list of h.
          let k = known.drops shapes 0 0 list of (shape_of shapes (Drop list of)) h in
          drop-within room list (shape_of shapes of) k.2 (shaped of k.0);
      reverses = λ of h.
          let k = known.reverses shapes 0 0 of (shape_of shapes (Reverse of)) h in reverse-within room (shape_of shapes of) (shaped of k.0);
      transposes = λ of h scope entries. reverse-zip (each scope) (shape_of shapes of) entries;
      permutes = λ list of h scope entries.
          let k = known.permutes shapes 0 0 list of (shape_of shapes (Permute list of)) h in
          permute-zip (each scope) (At (pos 0)) list (shape_of shapes of) k.1 k.2 entries;
      cat = λ left right h.
          let k = known.cat shapes 0 0 left right (shape_of shapes (Cat left right)) h in
          join-alike (shape_of shapes left) (shape_of shapes right) k.2 k.3 k.4;
      outer = λ op left right h.
          let s = shape_of shapes left in
          let t = shape_of shapes right in (
            (λ scope entries inside. (zip-split (each scope) entries s t inside).0),
            (λ scope entries inside. (zip-split (each scope) entries s t inside).1),
          );
      inner = λ fold op left right h.
          let s = shape_of shapes left in
          let t = shape_of shapes right in
          let k = known.inner shapes 0 0 fold op left right (shape_of shapes (Inner fold op left right)) h in
          let some = both-some s t k.2 in
          let same = eqb-true (slice_index s (length s - 1)) (slice_index t 0) k.3 in (
            same,
            some.1,
            (λ scope. last-zip (each scope) s (drop 1 t) (At (pos 0)) some.0),
            (λ scope. first-zip (each scope) s t (At (pos 0)) some.1 same),
          );
      reduces = λ fold of h.
          let s = shape_of shapes of in
          let k = known.reduces shapes 0 0 fold of (shape_of shapes (Reduce fold of)) h in
          let some = some-axis s k.1 in (some, (λ scope. insert-zip (each scope) s (At (pos 0)) some));
    }
