use Rattle.std.proofs.Common.{◌∙◌, ◌≡◌, ◌+◌, ◌-◌, ◌*◌, ◌<◌, ◌≤◌, ◌++◌, ◌∷◌, ℕ, List, [], ap, arith, refl, subst, sym, drop, length, length-append, length-drop, take}
use Rattle.std.specs.Prelude.{ℤ, IfOk, map, pos, slice_index, slice_index_or, suc}
use Rattle.std.specs.List.{AllByRecursion, insert}
use Rattle.std.proofs.lemmas.List.{length-map}
use Rattle.std.proofs.lemmas.Slice.Eq.{bytes_eq-Decides}
use Rattle.shapes_core.specs.Limits.{greatest_extent, most_axes, most_items}
use Rattle.shapes_core.specs.Shape.{span, total}
use Rattle.moa_tree.specs.declared.tree.Node.{Node}
use Rattle.moa_tree.specs.Axes.{each_place, naturals, on_axis, own_index, restored}
use Rattle.moa_tree.specs.Pool.{expr_of, list_at, operands, trees}
use Rattle.moa_tree.specs.Expr.{Use}
use Rattle.moa_tree.specs.Subexpressions.{scans_in}
use Rattle.shape_check.specs.Costs.{nodes}
use Rattle.normal_form.specs.Keeps.{AreWithin, IsWithin}
use Rattle.normal_form.specs.declared.entry.Entry.TheVariants.{At}
use Rattle.normal_form.specs.declared.entry.Entry.{Entry}
use Rattle.normal_form.specs.Forms.{Bin, Case, Let, Un}
use Rattle.normal_form.specs.declared.term.Bind.TheVariants.{Digit, Flat, Turn}
use Rattle.normal_form.specs.Formers.{folding, on_both, unflattening}
use Rattle.normal_form.specs.Moves.{behind_entry, mirrored_entry, remaining_entry, taken_entry, variable}
use Rattle.moa_tree.specs.ShapeOf.{beside}
use Rattle.shape_check.specs.Judged.{items_in, node_tree}
use Rattle.psi_rules.specs.Building.{Builds, inner_made, spread_made}
use Rattle.psi_rules.specs.declared.digits.Digited.TheVariants as digited
use Rattle.psi_rules.specs.declared.places.Place.{Place}
use Rattle.psi_rules.specs.declared.sides.Side.TheVariants as side
use Rattle.psi_rules.specs.declared.turns.Turned.TheVariants as turned_entry
use Rattle.psi_rules.specs.Rules.{Names, form, loading, nameless, scan_behind, shape_in}
use Rattle.psi_rules.specs.Scopes.{names_at}
use Rattle.psi_rules.specs.Tables.{AreReady, IsBefore, IsMeant, IsNameMeantSo, IsReady}
use Rattle.psi_rules.proofs.OffsetLemmas.{IsDigit, IsOffset, flat-done, reshape-done, spread-done, unflat-done}
use Rattle.psi_rules.proofs.TermLemmas.{Reaches, Turns, both-done, cat-done, fold-done, fresh-done, rotate-done, one-done, pair-done}
use Rattle.psi_rules.proofs.FitLemmas.{fits-drop, fits-ravel, fits-reshape, fits-transpose, fits-fit, fits-inner-left, fits-inner-right, fits-less, fits-many, fits-one, fits-outer-left, fits-outer-right, fits-permute, fits-psi, fits-reduce, fits-reverse, fits-take, fits-two-left, fits-two-right, fresh-used, made-behind, made-both, made-bound, made-flat, made-found, made-fresh, made-inner, made-leaf, made-left, made-offset, made-one, made-parts, made-right, made-same, made-spread, more-made, not-none, one-made, restored-many, room-both, room-bound, room-digit, room-fresh, room-inner, room-inside, room-now, room-offset, room-one, room-parts, room-reshape, room-sum}
use Rattle.psi_rules.proofs.FitPartLemmas.{all-some, axis-cut, cat-entry, extent-some, fits-cat-left, fits-cat-right, fits-digit, fits-digit-bound, fits-flat, fits-flat-bound, fits-none, fits-only, fits-rotate, fits-rotate-bound, fits-same, fits-spread, found-few, no-items, place-within, places-within, rotate-entry, shape-few, some-within}
use Rattle.psi_rules.specs.Building.{used}
use Rattle.psi_rules.specs.Fitting.{Fits, FitsAt, FitsIn, IsDigitWithin, IsFit, IsReadyHere, IsTurnWithin, IsWithinSide, cost}
use Rattle.psi_rules.specs.Keeping.{HasRoom}
use Rattle.psi_rules.specs.Numbered.{greatest_area, prices_at}
use Rattle.psi_rules.specs.Rules.{entry_on, shapes_of}
use Rattle.psi_rules.proofs.arms.+arms.Goals as goal

pub use_form-returns-in-Stored-clause-builds : goal.use_form-returns-in-Stored-clause-builds
use_form-returns-in-Stored-clause-builds t c = λ names scope.
    let checking = c.args.checked.now in
    let entries = c.args.entries.now in
    let result = c.load.result in
    let new = c.load.new.self in
    let former = λ (others : Names). (beside nameless others c.args.name.now).form in
    let means = subst (IsMeant checking c.args.tables.now (former (names_at (items_in checking.pools) c.args.place.statement))) c.in-Stored.is
    (c.meant_by.ensures.meant scope.meant) in
    subst (λ others. IfOk result (Builds (former others entries) c.args.pool.now new)) (sym scope.names_before)
    (subst (λ making. IfOk result (Builds making c.args.pool.now new)) (sym (means entries))
    (subst (λ area. IfOk result (Builds (loading area (slice_index_or checking.statement_shapes c.in-Stored.of []) entries) c.args.pool.now new))
    c.area_at.ensures
    (subst (λ shape. IfOk result (Builds (loading c.area_at.result shape entries) c.args.pool.now new)) c.statement_shape-shape.ensures
    c.load.ensures.builds)))

pub use_form-returns-in-Given-clause-builds : goal.use_form-returns-in-Given-clause-builds
use_form-returns-in-Given-clause-builds t c = λ names scope.
    let checking = c.args.checked.now in
    let items = items_in checking.pools in
    let entries = c.args.entries.now in
    let result = c.form_of.result in
    let new = c.form_of.new.pool in
    let former = λ (others : Names). (beside nameless others c.args.name.now).form in
    let means = subst (IsMeant checking c.args.tables.now (former (names_at items c.args.place.statement))) c.in-Given.is
    (c.meant_by.ensures.meant scope.meant) in
    subst (λ others. IfOk result (Builds (former others entries) c.args.pool.now new)) (sym scope.names_before)
    (subst (λ making. IfOk result (Builds making c.args.pool.now new)) (sym (means.1 entries))
    (subst (λ scan. IfOk result (Builds (form (names_at items c.in-Given.statement) scan (node_tree checking.pools c.in-Given.node) entries)
    c.args.pool.now new)) c.scan_at-scan.ensures (c.form_of.ensures.builds (names_at items c.in-Given.statement) (record {
      nodes = means.0;
      scope = record { names_before = refl; meant = scope.meant; known = scope.known };
    }))))

pub one_form-returns-clause-builds : goal.one_form-returns-clause-builds
one_form-returns-clause-builds t c = λ names ready.
    one-done (Un c.args.op) (form names c.args.place.scan (node_tree c.args.checked.now.pools c.args.of) c.args.entries.now) c.args.pool.now
    c.form_of.new.pool _
    c.in_ok-operand.operand c.un.result (c.in_ok-operand.ensures.builds names ready) c.un.ensures.adds

pub pair_form-returns-clause-builds : goal.pair_form-returns-clause-builds
pair_form-returns-clause-builds t c = λ names first second.
    let pools = c.args.checked.now.pools in
    let behind = scan_behind c.args.place.scan (node_tree pools c.args.left) in
    both-done (Bin c.args.op) (form names c.args.place.scan (node_tree pools c.args.left) c.args.at_left.now)
    (form names behind (node_tree pools c.args.right) c.args.at_right.now)
    c.args.pool.now c.form_of.new.pool c.form_of-2.new.pool _ c.in_ok-first.first c.in_ok-second.second c.bin.result
    (c.in_ok-first.ensures.builds names first) (subst (λ (p : Place). IsReady c.args.checked.now c.args.tables.now p.statement names c.args.right
    → Builds (form names p.scan (node_tree pools c.args.right) c.args.at_right.now) c.form_of.new.pool c.form_of-2.new.pool c.in_ok-second.second)
    c.place_behind-behind.ensures (c.in_ok-second.ensures.builds names) second) c.bin.ensures.adds

pub node_form-returns-in-One-clause-builds : goal.node_form-returns-in-One-clause-builds
node_form-returns-in-One-clause-builds t c = rw c.in-One.is (λ names scope ready. c.one_form.ensures.builds names ready.0)

pub two_form-returns-clause-builds : goal.two_form-returns-clause-builds
two_form-returns-clause-builds t c = λ names ready other.
    let pools = c.args.checked.now.pools in
    let behind = scan_behind c.args.place.scan (node_tree pools c.args.left) in
    pair-done (Bin c.args.op) (form names c.args.place.scan (node_tree pools c.args.left)) (form names behind (node_tree pools c.args.right)) _ _ _ _
    (c.own_in-first.ensures ∙ ap (λ shape. own_index shape c.args.entries.now) (ready.nodes.shape))
    (c.own_in-second.ensures ∙ ap (λ shape. own_index shape c.args.entries.now) (other.nodes.shape))
    c.args.pool.now _ c.pair_form.result (c.pair_form.ensures.builds names ready other)

pub outer_form-returns-clause-builds : goal.outer_form-returns-clause-builds
outer_form-returns-clause-builds t c = λ names ready other.
    let pools = c.args.checked.now.pools in
    let behind = scan_behind c.args.place.scan (node_tree pools c.args.left) in
    let shape = ready.nodes.shape in
    pair-done (Bin c.args.op) (form names c.args.place.scan (node_tree pools c.args.left)) (form names behind (node_tree pools c.args.right)) _ _ _ _
    (c.front-first.ensures ∙ ap (λ n. take n c.args.entries.now) c.axes_in-axes.ensures ∙ ap (λ shape. take (length shape) c.args.entries.now) shape)
    (c.behind-second.ensures ∙ ap (λ n. drop n c.args.entries.now) c.axes_in-axes.ensures ∙ ap (λ shape. drop (length shape) c.args.entries.now) shape)
    c.args.pool.now _ c.pair_form.result (c.pair_form.ensures.builds names ready other)

pub node_form-returns-in-Two-clause-builds : goal.node_form-returns-in-Two-clause-builds
node_form-returns-in-Two-clause-builds t c = rw c.in-Two.is (λ names scope ready. c.two_form.ensures.builds names ready.0 ready.1.0)

pub node_form-returns-in-Outer-clause-builds : goal.node_form-returns-in-Outer-clause-builds
node_form-returns-in-Outer-clause-builds t c = rw c.in-Outer.is (λ names scope ready. c.outer_form.ensures.builds names ready.0 ready.1.0)

pub node_form-returns-in-Psi-clause-builds : goal.node_form-returns-in-Psi-clause-builds
node_form-returns-in-Psi-clause-builds t c = rw c.in-Psi.is (λ names scope ready. c.psi_form.ensures.builds names ready.0)

pub node_form-returns-in-Take-clause-builds : goal.node_form-returns-in-Take-clause-builds
node_form-returns-in-Take-clause-builds t c = rw c.in-Take.is (λ names scope ready. c.take_form.ensures.builds names ready.0)

pub node_form-returns-in-Drop-clause-builds : goal.node_form-returns-in-Drop-clause-builds
node_form-returns-in-Drop-clause-builds t c = rw c.in-Drop.is (λ names scope ready. c.drop_form.ensures.builds names ready.0)

pub node_form-returns-in-Permute-clause-builds : goal.node_form-returns-in-Permute-clause-builds
node_form-returns-in-Permute-clause-builds t c = rw c.in-Permute.is (λ names scope ready. c.permute_form.ensures.builds names ready.0)

pub node_form-returns-in-Reverse-clause-builds : goal.node_form-returns-in-Reverse-clause-builds
node_form-returns-in-Reverse-clause-builds t c = rw c.in-Reverse.is (λ names scope ready. c.reverse_form.ensures.builds names ready.0)

pub node_form-returns-in-Reduce-clause-builds : goal.node_form-returns-in-Reduce-clause-builds
node_form-returns-in-Reduce-clause-builds t c = rw c.in-Reduce.is (λ names scope ready. c.reduce_form.ensures.builds names ready.0)

pub reduce_form-returns-clause-builds : goal.reduce_form-returns-clause-builds
reduce_form-returns-clause-builds t c = λ names ready.
    let tree = node_tree c.args.checked.now.pools c.args.of in
    let entries = c.args.entries.now in
    let item = λ (k : Entry). form names c.args.place.scan tree (insert entries 0 k) in
    subst (λ n. IfOk c.fold.result (Builds (folding c.args.fold n item) c.args.pool.now c.fold.new.self))
    (c.first_extent_in-extent.ensures.value ∙ ap (λ shape. slice_index shape 0) (ready.nodes.shape))
    (fold-done c.args.fold c.first_extent_in-extent.result item c.args.pool.now c.fresh-var.new.self c.form_of.new.pool _ c.fresh-var.result c.in_ok-item.item
    c.fold.result
    c.if-extent-eq0.false c.fresh-var.ensures
    (subst (λ e. Builds (form names c.args.place.scan tree e) c.fresh-var.new.self c.form_of.new.pool c.in_ok-item.item)
    (c.in_front-moved.ensures ∙ ap (λ k. k ∷ entries) c.variable.ensures) (c.in_ok-item.ensures.builds names ready))
    c.fold.ensures.adds)

pub inner_form-returns-clause-builds : goal.inner_form-returns-clause-builds
inner_form-returns-clause-builds t c = λ names ready other.
    let pools = c.args.checked.now.pools in
    let entries = c.args.entries.now in
    let op = c.args.operators.1 in
    let left = form names c.args.place.scan (node_tree pools c.args.left) in
    let right = form names (scan_behind c.args.place.scan (node_tree pools c.args.left)) (node_tree pools c.args.right) in
    let axes = length (slice_index_or c.args.checked.now.shapes c.args.left []) - 1 in
    let item = λ (k : Entry). on_both (Bin op) (left (take axes entries ++ k ∷ [])) (right (k ∷ drop axes entries)) in
    subst (λ shape. IfOk c.fold.result (Builds (inner_made c.args.operators.0 op shape entries left right) c.args.pool.now c.fold.new.self))
    (ready.nodes.shape)
    (subst (λ n. IfOk c.fold.result (Builds (folding c.args.operators.0 n item) c.args.pool.now c.fold.new.self)) c.last_extent_in-extent.ensures
    (fold-done c.args.operators.0 c.last_extent_in-extent.result item c.args.pool.now c.fresh-var.new.self c.pair_form.new.pool _ c.fresh-var.result
    c.in_ok-item.item c.fold.result
    c.if-extent-eq0.false c.fresh-var.ensures
    (subst (λ e. Builds (on_both (Bin op) (left (take axes entries ++ variable c.fresh-var.result ∷ [])) (right e)) c.fresh-var.new.self
    c.pair_form.new.pool c.in_ok-item.item)
    (c.with_first_in-second.ensures ∙ ap (λ k. k ∷ drop axes entries) c.variable-2.ensures)
    (subst (λ e. Builds (on_both (Bin op) (left e) (right c.with_first_in-second.result)) c.fresh-var.new.self c.pair_form.new.pool c.in_ok-item.item)
    (c.with_last_in-first.ensures ∙ ap (λ k. take axes entries ++ k ∷ []) c.variable.ensures)
    (c.in_ok-item.ensures.builds names ready other)))
    c.fold.ensures.adds))

pub node_form-returns-in-Cat-clause-builds : goal.node_form-returns-in-Cat-clause-builds
node_form-returns-in-Cat-clause-builds t c = rw c.in-Cat.is (λ names scope ready. c.cat_form.ensures.builds names ready.0 ready.1.0)

pub cat_form-returns-in-First-clause-builds : goal.cat_form-returns-in-First-clause-builds
cat_form-returns-in-First-clause-builds t c = λ names ready other.
    let pools = c.args.checked.now.pools in
    cat-done side.First c.first_extent_in-extent.result c.first_extent_in.result (slice_index_or c.args.checked.now.shapes c.args.left []) (slice_index_or c.args.checked.now.shapes c.args.right []) _ _ c.args.entries.now
    c.entry_on-entry.result (form names c.args.place.scan (node_tree pools c.args.left))
    (form names (scan_behind c.args.place.scan (node_tree pools c.args.left)) (node_tree pools c.args.right))
    c.args.pool.now c.form_of.new.pool c.form_of.result (ready.nodes.shape) (other.nodes.shape)
    c.entry_on-entry.ensures
    c.first_extent_in-extent.ensures.value c.first_extent_in.ensures.value
    (subst (λ s. Reaches s c.first_extent_in-extent.result c.first_extent_in.result c.entry_on-entry.result) c.in-First.is c.reached.ensures.joins)
    (c.form_of.ensures.builds names ready)

pub cat_form-returns-in_ok-second-in-Both-clause-builds : goal.cat_form-returns-in_ok-second-in-Both-clause-builds
cat_form-returns-in_ok-second-in-Both-clause-builds t c = λ names ready other.
    let pools = c.args.checked.now.pools in
    let entries = c.args.entries.now in
    let entry = c.entry_on-entry.result in
    let extent = c.first_extent_in-extent.result in
    let behind = scan_behind c.args.place.scan (node_tree pools c.args.left) in
    let left = form names c.args.place.scan (node_tree pools c.args.left) in
    let right = form names behind (node_tree pools c.args.right) in
    let moved = on_axis 0 behind_entry (slice_index_or c.args.checked.now.shapes c.args.left []) entries in
    cat-done side.Both extent c.first_extent_in.result (slice_index_or c.args.checked.now.shapes c.args.left []) (slice_index_or c.args.checked.now.shapes c.args.right []) _ _ entries entry left right
    c.args.pool.now c.case.new.self c.case.result (ready.nodes.shape) (other.nodes.shape)
    c.entry_on-entry.ensures
    c.first_extent_in-extent.ensures.value c.first_extent_in.ensures.value (subst (λ s. Reaches s extent c.first_extent_in.result entry) c.in-Both.is c.reached.ensures.joins)
    (both-done (Case entry (pos extent)) (left entries) (right moved) c.args.pool.now c.form_of-in-Both.new.pool c.form_of-in-Both-2.new.pool
    c.case.new.self
    c.in_ok-first-in-Both.first c.in_ok-second-in-Both.second c.case.result (c.in_ok-first-in-Both.ensures.builds names ready)
    (subst (λ e. Builds (right e) c.form_of-in-Both.new.pool c.form_of-in-Both-2.new.pool c.in_ok-second-in-Both.second) c.past_in-moved-in-Both.ensures
    (subst (λ (p : Place). IsReady c.args.checked.now c.args.tables.now p.statement names c.args.right
    → Builds (form names p.scan (node_tree pools c.args.right) c.past_in-moved-in-Both.result) c.form_of-in-Both.new.pool c.form_of-in-Both-2.new.pool
    c.in_ok-second-in-Both.second)
    c.place_behind-behind-in-Both.ensures (c.in_ok-second-in-Both.ensures.builds names) other))
    c.case.ensures.adds)

pub rotate_form-returns-in-Found-clause-builds : goal.rotate_form-returns-in-Found-clause-builds
rotate_form-returns-in-Found-clause-builds t c = λ names ready.
    let entries = c.args.entries.now in
    let of = form names c.args.place.scan (node_tree c.args.checked.now.pools c.args.of) in
    rotate-done (turned_entry.Found c.in-Found.found) c.turn_of-turn.result c.first_extent_in-extent.result c.args.by.now (slice_index_or c.args.checked.now.shapes c.args.of []) _ entries
    c.entry_on-entry.result of
    c.args.pool.now c.form_of.new.pool c.form_of.result (ready.nodes.shape) c.first_extent_in-extent.ensures.value c.turn_of-turn.ensures.turn
    c.entry_on-entry.ensures
    (subst (λ s. Turns s c.turn_of-turn.result c.first_extent_in-extent.result c.entry_on-entry.result) c.in-Found.is c.turn_entry.ensures.turns)
    (subst (λ e. IfOk c.form_of.result (Builds (of e) c.args.pool.now c.form_of.new.pool)) c.replaced_in-moved.ensures
    (c.form_of.ensures.builds names ready))

pub rotate_form-returns-in_ok-term-in-Bound-clause-builds : goal.rotate_form-returns-in_ok-term-in-Bound-clause-builds
rotate_form-returns-in_ok-term-in-Bound-clause-builds t c = λ names ready.
    let entries = c.args.entries.now in
    let shape = (slice_index_or c.args.checked.now.shapes c.args.of []) in
    let of = form names c.args.place.scan (node_tree c.args.checked.now.pools c.args.of) in
    let bind = Turn c.entry_on-entry.result c.turn_of-turn.result c.first_extent_in-extent.result in
    let item = λ (other : Entry). of (on_axis 0 (λ extent old. other) shape entries) in
    rotate-done turned_entry.Bound c.turn_of-turn.result c.first_extent_in-extent.result c.args.by.now shape _ entries c.entry_on-entry.result of
    c.args.pool.now c.turn.new.self c.turn.result (ready.nodes.shape) c.first_extent_in-extent.ensures.value c.turn_of-turn.ensures.turn
    c.entry_on-entry.ensures
    (subst (λ s. Turns s c.turn_of-turn.result c.first_extent_in-extent.result c.entry_on-entry.result) c.in-Bound.is c.turn_entry.ensures.turns)
    (fresh-done (λ v. Let v bind) item c.args.pool.now c.fresh-var.new.self c.form_of-in-Bound.new.pool c.turn.new.self c.fresh-var.result
    c.in_ok-term-in-Bound.term
    c.turn.result c.fresh-var.ensures
    (subst (λ e. Builds (of e) c.fresh-var.new.self c.form_of-in-Bound.new.pool c.in_ok-term-in-Bound.term)
    (c.replaced_in-moved-in-Bound.ensures ∙ ap (λ other. on_axis 0 (λ extent old. other) shape entries) c.variable.ensures)
    (c.in_ok-term-in-Bound.ensures.builds names ready))
    c.turn.ensures.adds)

pub node_form-returns-in-Rotate-clause-builds : goal.node_form-returns-in-Rotate-clause-builds
node_form-returns-in-Rotate-clause-builds t c = rw c.in-Rotate.is (λ names scope ready. c.rotate_form.ensures.builds names ready.0)

pub spread_form-returns-in-Found-clause-builds : goal.spread_form-returns-in-Found-clause-builds
spread_form-returns-in-Found-clause-builds t c = λ names ready.
    let of = form names c.args.place.scan (node_tree c.args.checked.now.pools c.args.of) in
    let axes = drop (c.args.axis + 1) c.args.shape.now in
    let n = c.extent_on-n.result in
    let inside : c.args.axis < length c.args.shape.now = let least = c.requires.axis in
    let other = c.if-axis-extents.false in
    let same = ap (λ (s : List ℕ). length s) c.extents.ensures.value in omega (arith, least, other, same) in
    let next : suc c.args.axis ≡ c.args.axis + 1 = omega arith in
    let weight = c.weight-weight.result in
    let flat = c.args.flat in
    spread-done (digited.Found c.in-Found.entry) (drop c.args.axis c.args.shape.now) axes n weight flat c.args.found.now of c.args.pool.now c.spread_form.new.pool
    c.spread_form.result
    (axis-cut c.args.shape.now c.args.axis inside ∙ ap (λ k. slice_index c.args.shape.now c.args.axis ∷ drop k c.args.shape.now) next
    ∙ ap (λ k. k ∷ axes) (sym c.extent_on-n.ensures.value)) (c.weight-weight.ensures.value ∙ ap (λ k. span (drop k c.args.shape.now)) next)
    (subst (λ digit. IsDigit digit flat weight n) c.in-Found.is c.digit_entry.ensures.digits)
    (subst (λ list. IfOk c.spread_form.result (Builds (spread_made axes flat list of) c.args.pool.now c.spread_form.new.pool))
    c.put_in_front.ensures
    (c.spread_form.ensures.builds names ready))

pub spread_form-returns-in_ok-term-in-Bound-clause-builds : goal.spread_form-returns-in_ok-term-in-Bound-clause-builds
spread_form-returns-in_ok-term-in-Bound-clause-builds t c = λ names ready.
    let of = form names c.args.place.scan (node_tree c.args.checked.now.pools c.args.of) in
    let axes = drop (c.args.axis + 1) c.args.shape.now in
    let n = c.extent_on-n.result in
    let inside : c.args.axis < length c.args.shape.now = let least = c.requires.axis in
    let other = c.if-axis-extents.false in
    let same = ap (λ (s : List ℕ). length s) c.extents.ensures.value in omega (arith, least, other, same) in
    let next : suc c.args.axis ≡ c.args.axis + 1 = omega arith in
    let weight = c.weight-weight.result in
    let flat = c.args.flat in
    let found = c.args.found.now in
    let item = λ (entry : Entry). spread_made axes flat (entry ∷ found) of in
    spread-done digited.Bound (drop c.args.axis c.args.shape.now) axes n weight flat found of c.args.pool.now c.digit.new.self c.digit.result
    (axis-cut c.args.shape.now c.args.axis inside ∙ ap (λ k. slice_index c.args.shape.now c.args.axis ∷ drop k c.args.shape.now) next
    ∙ ap (λ k. k ∷ axes) (sym c.extent_on-n.ensures.value)) (c.weight-weight.ensures.value ∙ ap (λ k. span (drop k c.args.shape.now)) next)
    (subst (λ digit. IsDigit digit flat weight n) c.in-Bound.is c.digit_entry.ensures.digits)
    (fresh-done (λ v. Let v (Digit flat weight n)) item c.args.pool.now c.fresh-var.new.self c.spread_form-in-Bound.new.pool c.digit.new.self
    c.fresh-var.result
    c.in_ok-term-in-Bound.term c.digit.result c.fresh-var.ensures
    (subst (λ list. Builds (spread_made axes flat list of) c.fresh-var.new.self c.spread_form-in-Bound.new.pool c.in_ok-term-in-Bound.term)
    (c.put_in_front-in-Bound.ensures ∙ ap (λ entry. entry ∷ found) c.variable.ensures) (c.in_ok-term-in-Bound.ensures.builds names ready))
    c.digit.ensures.adds)

pub offset_form-returns-clause-builds : goal.offset_form-returns-clause-builds
offset_form-returns-clause-builds t c = λ names ready.
    let of = form names c.args.place.scan (node_tree c.args.checked.now.pools c.args.of) in
    let shape = c.shape_of-shape.result in
    let some = λ (one : length shape ≡ 1). c.if-extents-eq1.false (ap (λ (s : List ℕ). length s) c.extents.ensures.value ∙ one) in
    unflat-done shape _ c.args.flat of c.args.pool.now c.spread_form.new.pool c.spread_form.result
    (c.shape_of-shape.ensures ∙ ready.nodes.shape) some
    (subst (λ list. IfOk c.spread_form.result (Builds (spread_made shape c.args.flat list of) c.args.pool.now c.spread_form.new.pool))
    c.listed-found.ensures
    (c.spread_form.ensures.builds names ready))

pub flat_form-returns-in_ok-term-in-Bound-clause-builds : goal.flat_form-returns-in_ok-term-in-Bound-clause-builds
flat_form-returns-in_ok-term-in-Bound-clause-builds t c = λ names ready.
    let tree = node_tree c.args.checked.now.pools c.args.of in
    let shape = slice_index_or c.args.checked.now.shapes c.args.number [] in
    let entries = c.args.entries.now in
    let rest = λ (flat : Entry). unflattening (shape_in names tree) flat (form names c.args.place.scan tree) in
    flat-done digited.Bound shape entries rest c.args.pool.now c.push_offset.new.pool c.push_offset.result
    (subst (λ offset. IsOffset offset shape entries) c.in-Bound.is c.offset_in.ensures.offset)
    (fresh-done (λ v. Let v (Flat entries shape)) rest c.args.pool.now c.fresh-var.new.self c.offset_form-in-Bound.new.pool c.push_offset.new.pool
    c.fresh-var.result
    c.in_ok-term-in-Bound.term c.push_offset.result c.fresh-var.ensures
    (subst (λ flat. Builds (rest flat) c.fresh-var.new.self c.offset_form-in-Bound.new.pool c.in_ok-term-in-Bound.term) c.variable.ensures
    (c.in_ok-term-in-Bound.ensures.builds names ready))
    c.push_offset.ensures.adds)

pub reshape_form-returns-clause-builds : goal.reshape_form-returns-clause-builds
reshape_form-returns-clause-builds t c = λ names ready.
    reshape-done (slice_index_or c.args.checked.now.shapes c.args.number []) (slice_index_or c.args.checked.now.shapes c.args.of []) _ c.args.entries.now
    (form names c.args.place.scan (node_tree c.args.checked.now.pools c.args.of))
    c.args.pool.now c.flat_form.new.pool c.flat_form.result ready.nodes.shape
    (sym c.same_shapes.ensures ∙ c.if-same_shapes.false) (sym c.is_scalar.ensures ∙ c.if-is_scalar.false) (c.flat_form.ensures.builds names ready)

pub node_form-returns-in-Inner-clause-builds : goal.node_form-returns-in-Inner-clause-builds
node_form-returns-in-Inner-clause-builds t c = rw c.in-Inner.is (λ names scope ready. c.inner_form.ensures.builds names ready.0 ready.1.0)

pub form_of-returns-clause-builds : goal.form_of-returns-clause-builds
form_of-returns-clause-builds t c = λ names ready.
    subst (λ tree. IfOk c.node_form.result (Builds (form names c.args.place.scan tree c.args.entries.now) c.args.pool.now c.node_form.new.pool))
    (sym c.node_of-node.ensures.tree)
    (c.node_form.ensures.builds names ready.scope (c.node_of-node.ensures.ready c.args.tables.now c.args.place.statement names ready))

pub one_form-un-requires-clause-room : goal.one_form-un-requires-clause-room
one_form-un-requires-clause-room t c =
    let pools = c.args.checked.now.pools in
    let items = items_in pools in
    let statement = c.args.place.statement in
    let names = names_at items statement in
    let prices = prices_at items statement in
    let old = used c.args.pool.now in
    let tree = node_tree pools c.args.of in
    let x = nodes prices tree in
    room-one old (used c.form_of.new.pool) x c.in_ok-operand.ensures.grown c.requires.fits.terms

pub one_form-returns-clause-grown : goal.one_form-returns-clause-grown
one_form-returns-clause-grown t c =
    let pools = c.args.checked.now.pools in
    let items = items_in pools in
    let statement = c.args.place.statement in
    let names = names_at items statement in
    let prices = prices_at items statement in
    let old = used c.args.pool.now in
    let tree = node_tree pools c.args.of in
    let x = nodes prices tree in
    let mid = used c.form_of.new.pool in
    let new = used c.un.new.self in
    one-made c.un.result new mid (old + 16 * (1 + x)) (made-one old mid new x c.in_ok-operand.ensures.grown) c.un.ensures.one

pub pair_form-place_behind-behind-requires-clause-few : goal.pair_form-place_behind-behind-requires-clause-few
pair_form-place_behind-behind-requires-clause-few t c =
    c.requires.left_fits.areas

pub pair_form-bin-requires-clause-room : goal.pair_form-bin-requires-clause-room
pair_form-bin-requires-clause-room t c =
    let pools = c.args.checked.now.pools in
    let items = items_in pools in
    let statement = c.args.place.statement in
    let prices = prices_at items statement in
    let left = node_tree pools c.args.left in
    let right = node_tree pools c.args.right in
    let x = nodes prices left in
    let y = nodes prices right in
    let old = used c.args.pool.now in
    let mid = used c.form_of.new.pool in
    let last = used c.form_of-2.new.pool in
    let same = ap (λ (p : Place). p.statement) c.place_behind-behind.ensures in
    let second = subst (λ s. last ≤ mid + cost items s right) same c.in_ok-second.ensures.grown in
    let first = c.in_ok-first.ensures.grown in
    let room = c.requires.room in
    room-sum old mid last (16 * x) (16 * y) first second room

pub pair_form-returns-clause-grown : goal.pair_form-returns-clause-grown
pair_form-returns-clause-grown t c =
    let pools = c.args.checked.now.pools in
    let items = items_in pools in
    let statement = c.args.place.statement in
    let prices = prices_at items statement in
    let left = node_tree pools c.args.left in
    let right = node_tree pools c.args.right in
    let x = nodes prices left in
    let y = nodes prices right in
    let old = used c.args.pool.now in
    let mid = used c.form_of.new.pool in
    let last = used c.form_of-2.new.pool in
    let same = ap (λ (p : Place). p.statement) c.place_behind-behind.ensures in
    let second = subst (λ s. last ≤ mid + cost items s right) same c.in_ok-second.ensures.grown in
    let new = used c.bin.new.self in
    one-made c.bin.result new last (old + (1 + (16 * x + 16 * y))) (made-parts old mid last new x y c.in_ok-first.ensures.grown second)
    c.bin.ensures.one

pub two_form-returns-clause-grown : goal.two_form-returns-clause-grown
two_form-returns-clause-grown t c =
    let pools = c.args.checked.now.pools in
    let items = items_in pools in
    let statement = c.args.place.statement in
    let names = names_at items statement in
    let prices = prices_at items statement in
    let old = used c.args.pool.now in
    let left = node_tree pools c.args.left in
    let right = node_tree pools c.args.right in
    let x = nodes prices left in
    let y = nodes prices right in
    let new = used c.pair_form.new.pool in
    more-made c.pair_form.result new (old + (1 + (16 * x + 16 * y))) (old + 16 * (1 + (x + y))) (made-both old new x y) c.pair_form.ensures.grown

pub outer_form-returns-clause-grown : goal.outer_form-returns-clause-grown
outer_form-returns-clause-grown t c =
    let pools = c.args.checked.now.pools in
    let items = items_in pools in
    let statement = c.args.place.statement in
    let names = names_at items statement in
    let prices = prices_at items statement in
    let old = used c.args.pool.now in
    let left = node_tree pools c.args.left in
    let right = node_tree pools c.args.right in
    let x = nodes prices left in
    let y = nodes prices right in
    let new = used c.pair_form.new.pool in
    more-made c.pair_form.result new (old + (1 + (16 * x + 16 * y))) (old + 16 * (1 + (x + y))) (made-both old new x y) c.pair_form.ensures.grown

pub reduce_form-literal-requires : goal.reduce_form-literal-requires
reduce_form-literal-requires t c =
    let pools = c.args.checked.now.pools in
    let items = items_in pools in
    let statement = c.args.place.statement in
    let names = names_at items statement in
    let prices = prices_at items statement in
    let old = used c.args.pool.now in
    let tree = node_tree pools c.args.of in
    let x = nodes prices tree in
    record { room = room-now old x c.requires.fits.terms }

pub reduce_form-fresh-var-requires : goal.reduce_form-fresh-var-requires
reduce_form-fresh-var-requires t c =
    let pools = c.args.checked.now.pools in
    let items = items_in pools in
    let statement = c.args.place.statement in
    let names = names_at items statement in
    let prices = prices_at items statement in
    let old = used c.args.pool.now in
    let tree = node_tree pools c.args.of in
    let x = nodes prices tree in
    room-now old x c.requires.fits.terms

pub reduce_form-in_front-moved-requires : goal.reduce_form-in_front-moved-requires
reduce_form-in_front-moved-requires t c =
    let pools = c.args.checked.now.pools in
    let items = items_in pools in
    let statement = c.args.place.statement in
    let names = names_at items statement in
    let moves = c.operand_laws.ensures.moves (shapes_of names) in
    let within = c.operand_laws.ensures.within (shapes_of names) in
    let scan = c.args.place.scan in
    let old = used c.args.pool.now in
    let entries = c.args.entries.now in
    let tree = node_tree pools c.args.of in
    let shape = c.requires.ready.nodes.shape in
    let extent = c.first_extent_in-extent.ensures.value ∙ ap (λ s. slice_index s 0) shape in
    let none = c.if-extent-eq0.false in
    let some : 0 < slice_index (shape_in names tree) 0 = subst (λ n. 0 < n) extent (not-none c.first_extent_in-extent.result none) in
    let next = fits-reduce items statement moves within scan old c.fresh-var.result c.args.fold tree entries some c.requires.fits in
    let many = fits-many items statement moves within scan (suc old) tree (variable c.fresh-var.result ∷ entries) next in
    let few = shape-few (shape_in names tree) ((within 0).shaped tree next.accepted) in
    omega (arith, many, few)

pub reduce_form-fold-requires-clause-room : goal.reduce_form-fold-requires-clause-room
reduce_form-fold-requires-clause-room t c =
    let pools = c.args.checked.now.pools in
    let items = items_in pools in
    let statement = c.args.place.statement in
    let names = names_at items statement in
    let prices = prices_at items statement in
    let old = used c.args.pool.now in
    let tree = node_tree pools c.args.of in
    let x = nodes prices tree in
    let fresh = fresh-used c.args.pool.now c.fresh-var.new.self c.fresh-var.result c.fresh-var.ensures in
    room-fresh old (used c.fresh-var.new.self) (used c.form_of.new.pool) x fresh c.in_ok-item.ensures.grown c.requires.fits.terms

pub reduce_form-returns-clause-grown : goal.reduce_form-returns-clause-grown
reduce_form-returns-clause-grown t c =
    let pools = c.args.checked.now.pools in
    let items = items_in pools in
    let statement = c.args.place.statement in
    let names = names_at items statement in
    let prices = prices_at items statement in
    let old = used c.args.pool.now in
    let tree = node_tree pools c.args.of in
    let x = nodes prices tree in
    let fresh = fresh-used c.args.pool.now c.fresh-var.new.self c.fresh-var.result c.fresh-var.ensures in
    let mid = used c.form_of.new.pool in
    let new = used c.fold.new.self in
    one-made c.fold.result new mid (old + 16 * (1 + x)) (made-fresh old (used c.fresh-var.new.self) mid new x fresh c.in_ok-item.ensures.grown)
    c.fold.ensures.one

pub reduce_form-returns-then-extent-eq0-clause-grown : goal.reduce_form-returns-then-extent-eq0-clause-grown
reduce_form-returns-then-extent-eq0-clause-grown t c =
    let pools = c.args.checked.now.pools in
    let items = items_in pools in
    let statement = c.args.place.statement in
    let names = names_at items statement in
    let prices = prices_at items statement in
    let old = used c.args.pool.now in
    let tree = node_tree pools c.args.of in
    let x = nodes prices tree in
    let new = used c.literal.new.self in
    one-made c.literal.result new old (old + 16 * (1 + x)) (made-leaf old new x) c.literal.ensures.one

pub inner_form-literal-requires : goal.inner_form-literal-requires
inner_form-literal-requires t c =
    let pools = c.args.checked.now.pools in
    let items = items_in pools in
    let statement = c.args.place.statement in
    let names = names_at items statement in
    let prices = prices_at items statement in
    let old = used c.args.pool.now in
    let left = node_tree pools c.args.left in
    let right = node_tree pools c.args.right in
    let x = nodes prices left in
    let y = nodes prices right in
    record { room = room-now old (x + y) c.requires.fits.terms }

pub inner_form-fresh-var-requires : goal.inner_form-fresh-var-requires
inner_form-fresh-var-requires t c =
    let pools = c.args.checked.now.pools in
    let items = items_in pools in
    let statement = c.args.place.statement in
    let names = names_at items statement in
    let prices = prices_at items statement in
    let old = used c.args.pool.now in
    let left = node_tree pools c.args.left in
    let right = node_tree pools c.args.right in
    let x = nodes prices left in
    let y = nodes prices right in
    room-now old (x + y) c.requires.fits.terms

pub inner_form-with_first_in-second-requires-clause-few : goal.inner_form-with_first_in-second-requires-clause-few
inner_form-with_first_in-second-requires-clause-few t c =
    let pools = c.args.checked.now.pools in
    let items = items_in pools in
    let statement = c.args.place.statement in
    let names = names_at items statement in
    let moves = c.operand_laws.ensures.moves (shapes_of names) in
    let within = c.operand_laws.ensures.within (shapes_of names) in
    let scan = c.args.place.scan in
    let old = used c.args.pool.now in
    let entries = c.args.entries.now in
    let left = node_tree pools c.args.left in
    let right = node_tree pools c.args.right in
    let shape = c.requires.left_ready.nodes.shape in
    let extent = c.last_extent_in-extent.ensures ∙ ap (λ s. slice_index s (length s - 1)) shape in
    let none = c.if-extent-eq0.false in
    let axes = length (shape_in names left) - 1 in
    let some : 0 < slice_index (shape_in names left) axes = subst (λ n. 0 < n) extent (not-none c.last_extent_in-extent.result none) in
    let var = c.fresh-var.result in
    let next = fits-inner-right items statement moves within scan old var c.args.operators.0 c.args.operators.1 left right entries some
    c.requires.fits in
    let many = fits-many items statement moves within (scan_behind scan left) (suc old + cost items statement left) right
    (variable var ∷ drop axes entries) next in
    let few = shape-few (shape_in names right) ((within 0).shaped right next.accepted) in
    let size = length-drop axes entries in
    let same = ap (λ (s : List ℕ). length s) shape in
    omega (arith, many, few, size, same)

pub inner_form-fold-requires-clause-room : goal.inner_form-fold-requires-clause-room
inner_form-fold-requires-clause-room t c =
    let pools = c.args.checked.now.pools in
    let items = items_in pools in
    let statement = c.args.place.statement in
    let names = names_at items statement in
    let prices = prices_at items statement in
    let old = used c.args.pool.now in
    let left = node_tree pools c.args.left in
    let right = node_tree pools c.args.right in
    let x = nodes prices left in
    let y = nodes prices right in
    let fresh = fresh-used c.args.pool.now c.fresh-var.new.self c.fresh-var.result c.fresh-var.ensures in
    room-inner old (used c.fresh-var.new.self) (used c.pair_form.new.pool) x y fresh c.in_ok-item.ensures.grown c.requires.fits.terms

pub inner_form-returns-clause-grown : goal.inner_form-returns-clause-grown
inner_form-returns-clause-grown t c =
    let pools = c.args.checked.now.pools in
    let items = items_in pools in
    let statement = c.args.place.statement in
    let names = names_at items statement in
    let prices = prices_at items statement in
    let old = used c.args.pool.now in
    let left = node_tree pools c.args.left in
    let right = node_tree pools c.args.right in
    let x = nodes prices left in
    let y = nodes prices right in
    let fresh = fresh-used c.args.pool.now c.fresh-var.new.self c.fresh-var.result c.fresh-var.ensures in
    let last = used c.pair_form.new.pool in
    let new = used c.fold.new.self in
    one-made c.fold.result new last (old + 16 * (1 + (x + y)))
    (made-inner old (used c.fresh-var.new.self) last new x y fresh c.in_ok-item.ensures.grown) c.fold.ensures.one

pub inner_form-returns-then-extent-eq0-clause-grown : goal.inner_form-returns-then-extent-eq0-clause-grown
inner_form-returns-then-extent-eq0-clause-grown t c =
    let pools = c.args.checked.now.pools in
    let items = items_in pools in
    let statement = c.args.place.statement in
    let names = names_at items statement in
    let prices = prices_at items statement in
    let old = used c.args.pool.now in
    let left = node_tree pools c.args.left in
    let right = node_tree pools c.args.right in
    let x = nodes prices left in
    let y = nodes prices right in
    let new = used c.literal.new.self in
    one-made c.literal.result new old (old + 16 * (1 + (x + y))) (made-leaf old new (x + y)) c.literal.ensures.one

pub psi_form-indexed-moved-requires : goal.psi_form-indexed-moved-requires
psi_form-indexed-moved-requires t c =
    let pools = c.args.checked.now.pools in
    let items = items_in pools in
    let statement = c.args.place.statement in
    let names = names_at items statement in
    let moves = c.operand_laws.ensures.moves (shapes_of names) in
    let within = c.operand_laws.ensures.within (shapes_of names) in
    let scan = c.args.place.scan in
    let old = used c.args.pool.now in
    let entries = c.args.entries.now in
    let tree = node_tree pools c.args.of in
    let list = list_at pools.numbers c.args.list in
    let next = fits-psi items statement moves within scan old list tree entries c.requires.fits in
    let many = fits-many items statement moves within scan old tree (map At list ++ entries) next in
    let few = shape-few (shape_in names tree) ((within 0).shaped tree next.accepted) in
    let sum = length-append (map At list) entries in
    let mapped = length-map list At in
    let same = ap (λ (l : List ℤ). length l) c.list_of.ensures in
    omega (arith, many, few, sum, mapped, same)

pub psi_form-returns-clause-grown : goal.psi_form-returns-clause-grown
psi_form-returns-clause-grown t c =
    let pools = c.args.checked.now.pools in
    let items = items_in pools in
    let statement = c.args.place.statement in
    let names = names_at items statement in
    let prices = prices_at items statement in
    let old = used c.args.pool.now in
    let tree = node_tree pools c.args.of in
    let x = nodes prices tree in
    let new = used c.form_of.new.pool in
    more-made c.form_of.result new (old + 16 * x) (old + 16 * (1 + x)) (made-same old new x) c.form_of.ensures.grown

pub take_form-taken-moved-requires : goal.take_form-taken-moved-requires
take_form-taken-moved-requires t c =
    let pools = c.args.checked.now.pools in
    let items = items_in pools in
    let statement = c.args.place.statement in
    let names = names_at items statement in
    let moves = c.operand_laws.ensures.moves (shapes_of names) in
    let within = c.operand_laws.ensures.within (shapes_of names) in
    let scan = c.args.place.scan in
    let old = used c.args.pool.now in
    let entries = c.args.entries.now in
    let tree = node_tree pools c.args.of in
    let list = list_at pools.numbers c.args.list in
    let next = fits-take items statement moves within scan old list tree entries c.requires.fits in
    subst (λ l. AllByRecursion IsFit (each_place taken_entry l c.shape_of.result entries)) (sym c.list_of.ensures)
    (subst (λ s. AllByRecursion IsFit (each_place taken_entry list s entries)) (sym (c.shape_of.ensures ∙ c.requires.ready.nodes.shape))
    (fits-fit items statement moves within scan old tree (each_place taken_entry list (shape_in names tree) entries) next))

pub take_form-returns-clause-grown : goal.take_form-returns-clause-grown
take_form-returns-clause-grown t c =
    let pools = c.args.checked.now.pools in
    let items = items_in pools in
    let statement = c.args.place.statement in
    let names = names_at items statement in
    let prices = prices_at items statement in
    let old = used c.args.pool.now in
    let tree = node_tree pools c.args.of in
    let x = nodes prices tree in
    let new = used c.form_of.new.pool in
    more-made c.form_of.result new (old + 16 * x) (old + 16 * (1 + x)) (made-same old new x) c.form_of.ensures.grown

pub drop_form-dropped-moved-requires : goal.drop_form-dropped-moved-requires
drop_form-dropped-moved-requires t c =
    let pools = c.args.checked.now.pools in
    let items = items_in pools in
    let statement = c.args.place.statement in
    let names = names_at items statement in
    let moves = c.operand_laws.ensures.moves (shapes_of names) in
    let within = c.operand_laws.ensures.within (shapes_of names) in
    let scan = c.args.place.scan in
    let old = used c.args.pool.now in
    let entries = c.args.entries.now in
    let tree = node_tree pools c.args.of in
    let list = list_at pools.numbers c.args.list in
    let next = fits-drop items statement moves within scan old list tree entries c.requires.fits in
    subst (λ l. AllByRecursion IsFit (each_place remaining_entry l c.shape_of.result entries)) (sym c.list_of.ensures)
    (subst (λ s. AllByRecursion IsFit (each_place remaining_entry list s entries)) (sym (c.shape_of.ensures ∙ c.requires.ready.nodes.shape))
    (fits-fit items statement moves within scan old tree (each_place remaining_entry list (shape_in names tree) entries) next))

pub drop_form-returns-clause-grown : goal.drop_form-returns-clause-grown
drop_form-returns-clause-grown t c =
    let pools = c.args.checked.now.pools in
    let items = items_in pools in
    let statement = c.args.place.statement in
    let names = names_at items statement in
    let prices = prices_at items statement in
    let old = used c.args.pool.now in
    let tree = node_tree pools c.args.of in
    let x = nodes prices tree in
    let new = used c.form_of.new.pool in
    more-made c.form_of.result new (old + 16 * x) (old + 16 * (1 + x)) (made-same old new x) c.form_of.ensures.grown

pub permute_form-restored-moved-requires : goal.permute_form-restored-moved-requires
permute_form-restored-moved-requires t c =
    let pools = c.args.checked.now.pools in
    let items = items_in pools in
    let statement = c.args.place.statement in
    let names = names_at items statement in
    let moves = c.operand_laws.ensures.moves (shapes_of names) in
    let within = c.operand_laws.ensures.within (shapes_of names) in
    let scan = c.args.place.scan in
    let old = used c.args.pool.now in
    let entries = c.args.entries.now in
    let tree = node_tree pools c.args.of in
    let list = list_at pools.numbers c.args.list in
    let next = fits-permute items statement moves within scan old list tree entries c.requires.fits in
    let many = fits-many items statement moves within scan old tree (restored (At (pos 0)) (naturals list) entries) next in
    let few = shape-few (shape_in names tree) ((within 0).shaped tree next.accepted) in
    let sum = restored-many list entries in
    let same = ap (λ (l : List ℤ). length l) c.list_of.ensures in
    omega (arith, many, few, sum, same)

pub permute_form-returns-clause-grown : goal.permute_form-returns-clause-grown
permute_form-returns-clause-grown t c =
    let pools = c.args.checked.now.pools in
    let items = items_in pools in
    let statement = c.args.place.statement in
    let names = names_at items statement in
    let prices = prices_at items statement in
    let old = used c.args.pool.now in
    let tree = node_tree pools c.args.of in
    let x = nodes prices tree in
    let new = used c.form_of.new.pool in
    more-made c.form_of.result new (old + 16 * x) (old + 16 * (1 + x)) (made-same old new x) c.form_of.ensures.grown

pub reverse_form-reversed-moved-requires : goal.reverse_form-reversed-moved-requires
reverse_form-reversed-moved-requires t c =
    let pools = c.args.checked.now.pools in
    let items = items_in pools in
    let statement = c.args.place.statement in
    let names = names_at items statement in
    let moves = c.operand_laws.ensures.moves (shapes_of names) in
    let within = c.operand_laws.ensures.within (shapes_of names) in
    let scan = c.args.place.scan in
    let old = used c.args.pool.now in
    let entries = c.args.entries.now in
    let tree = node_tree pools c.args.of in
    let next = fits-reverse items statement moves within scan old tree entries c.requires.fits in
    subst (λ s. AllByRecursion IsFit (on_axis 0 mirrored_entry s entries)) (sym (c.shape_of.ensures ∙ c.requires.ready.nodes.shape))
    (fits-fit items statement moves within scan old tree (on_axis 0 mirrored_entry (shape_in names tree) entries) next)

pub reverse_form-returns-clause-grown : goal.reverse_form-returns-clause-grown
reverse_form-returns-clause-grown t c =
    let pools = c.args.checked.now.pools in
    let items = items_in pools in
    let statement = c.args.place.statement in
    let names = names_at items statement in
    let prices = prices_at items statement in
    let old = used c.args.pool.now in
    let tree = node_tree pools c.args.of in
    let x = nodes prices tree in
    let new = used c.form_of.new.pool in
    more-made c.form_of.result new (old + 16 * x) (old + 16 * (1 + x)) (made-same old new x) c.form_of.ensures.grown

pub rotate_form-turn_of-turn-requires-clause-some : goal.rotate_form-turn_of-turn-requires-clause-some
rotate_form-turn_of-turn-requires-clause-some t c =
    let pools = c.args.checked.now.pools in
    let items = items_in pools in
    let statement = c.args.place.statement in
    let names = names_at items statement in
    let moves = c.operand_laws.ensures.moves (shapes_of names) in
    let within = c.operand_laws.ensures.within (shapes_of names) in
    let scan = c.args.place.scan in
    let old = used c.args.pool.now in
    let entries = c.args.entries.now in
    let tree = node_tree pools c.args.of in
    let shape = c.requires.ready.nodes.shape in
    let extent = c.first_extent_in-extent.ensures.value ∙ ap (λ s. slice_index s 0) shape in
    let h = c.requires.fits in
    let inside = subst (λ n. IsWithin h.room h.known (entry_on 0 entries) n) (sym extent)
    (rotate-entry items statement moves within scan old c.args.by.now tree entries h) in
    let n = c.first_extent_in-extent.result in
    some-within h.room h.known (entry_on 0 entries) n inside

pub rotate_form-turn_entry-requires-clause-place : goal.rotate_form-turn_entry-requires-clause-place
rotate_form-turn_entry-requires-clause-place t c =
    let pools = c.args.checked.now.pools in
    let items = items_in pools in
    let statement = c.args.place.statement in
    let names = names_at items statement in
    let moves = c.operand_laws.ensures.moves (shapes_of names) in
    let within = c.operand_laws.ensures.within (shapes_of names) in
    let scan = c.args.place.scan in
    let old = used c.args.pool.now in
    let entries = c.args.entries.now in
    let tree = node_tree pools c.args.of in
    let shape = c.requires.ready.nodes.shape in
    let extent = c.first_extent_in-extent.ensures.value ∙ ap (λ s. slice_index s 0) shape in
    let h = c.requires.fits in
    let inside = subst (λ n. IsWithin h.room h.known c.entry_on-entry.result n) (sym extent)
    (subst (λ e. IsWithin h.room h.known e (slice_index (shape_in names tree) 0)) (sym c.entry_on-entry.ensures)
    (rotate-entry items statement moves within scan old c.args.by.now tree entries h)) in
    let n = c.first_extent_in-extent.result in
    place-within h.room h.known c.entry_on-entry.result n inside

pub rotate_form-fresh-var-requires : goal.rotate_form-fresh-var-requires
rotate_form-fresh-var-requires t c =
    let pools = c.args.checked.now.pools in
    let items = items_in pools in
    let statement = c.args.place.statement in
    let names = names_at items statement in
    let prices = prices_at items statement in
    let old = used c.args.pool.now in
    let tree = node_tree pools c.args.of in
    let x = nodes prices tree in
    room-now old x c.requires.fits.terms

pub rotate_form-turn-requires-clause-room : goal.rotate_form-turn-requires-clause-room
rotate_form-turn-requires-clause-room t c =
    let pools = c.args.checked.now.pools in
    let items = items_in pools in
    let statement = c.args.place.statement in
    let names = names_at items statement in
    let prices = prices_at items statement in
    let old = used c.args.pool.now in
    let tree = node_tree pools c.args.of in
    let x = nodes prices tree in
    let fresh = fresh-used c.args.pool.now c.fresh-var.new.self c.fresh-var.result c.fresh-var.ensures in
    room-fresh old (used c.fresh-var.new.self) (used c.form_of-in-Bound.new.pool) x fresh c.in_ok-term-in-Bound.ensures.grown
    c.requires.fits.terms

pub rotate_form-returns-in-Found-clause-grown : goal.rotate_form-returns-in-Found-clause-grown
rotate_form-returns-in-Found-clause-grown t c =
    let pools = c.args.checked.now.pools in
    let items = items_in pools in
    let statement = c.args.place.statement in
    let names = names_at items statement in
    let prices = prices_at items statement in
    let old = used c.args.pool.now in
    let tree = node_tree pools c.args.of in
    let x = nodes prices tree in
    let new = used c.form_of.new.pool in
    more-made c.form_of.result new (old + 16 * x) (old + 16 * (1 + x)) (made-same old new x) c.form_of.ensures.grown

pub rotate_form-returns-in_ok-term-in-Bound-clause-grown : goal.rotate_form-returns-in_ok-term-in-Bound-clause-grown
rotate_form-returns-in_ok-term-in-Bound-clause-grown t c =
    let pools = c.args.checked.now.pools in
    let items = items_in pools in
    let statement = c.args.place.statement in
    let names = names_at items statement in
    let prices = prices_at items statement in
    let old = used c.args.pool.now in
    let tree = node_tree pools c.args.of in
    let x = nodes prices tree in
    let fresh = fresh-used c.args.pool.now c.fresh-var.new.self c.fresh-var.result c.fresh-var.ensures in
    let mid = used c.form_of-in-Bound.new.pool in
    let new = used c.turn.new.self in
    one-made c.turn.result new mid (old + 16 * (1 + x))
    (made-fresh old (used c.fresh-var.new.self) mid new x fresh c.in_ok-term-in-Bound.ensures.grown) c.turn.ensures.one

pub cat_form-past_in-moved-requires-clause-fits : goal.cat_form-past_in-moved-requires-clause-fits
cat_form-past_in-moved-requires-clause-fits t c =
    let pools = c.args.checked.now.pools in
    let items = items_in pools in
    let statement = c.args.place.statement in
    let names = names_at items statement in
    let moves = c.operand_laws.ensures.moves (shapes_of names) in
    let within = c.operand_laws.ensures.within (shapes_of names) in
    let scan = c.args.place.scan in
    let old = used c.args.pool.now in
    let entries = c.args.entries.now in
    let left = node_tree pools c.args.left in
    let right = node_tree pools c.args.right in
    let shape = c.requires.left_ready.nodes.shape in
    let other = c.requires.right_ready.nodes.shape in
    let n = c.first_extent_in-extent.result in
    let m = c.first_extent_in.result in
    let is_n = c.first_extent_in-extent.ensures.value ∙ ap (λ s. slice_index s 0) shape in
    let is_m = c.first_extent_in.ensures.value ∙ ap (λ s. slice_index s 0) other in
    let h = c.requires.fits in
    let entry = c.entry_on-entry.result in
    let inside = subst (λ k. IsWithin h.room h.known entry (k + m)) (sym is_n)
    (subst (λ k. IsWithin h.room h.known entry (slice_index (shape_in names left) 0 + k)) (sym is_m)
    (subst (λ e. IsWithin h.room h.known e (slice_index (shape_in names left) 0 + slice_index (shape_in names right) 0))
    (sym c.entry_on-entry.ensures) (cat-entry items statement moves within scan old left right entries h))) in
    let parts = c.reached.ensures.within h.room h.known inside in
    let part = subst (λ s. IsWithinSide s h.room h.known n m entry) c.in-Second.is parts in
    let there = subst (λ e. IsWithin (h.room + greatest_extent) h.known (behind_entry (slice_index (shape_in names left) 0) e)
    (slice_index (shape_in names right) 0)) c.entry_on-entry.ensures
    (subst (λ k. IsWithin (h.room + greatest_extent) h.known (behind_entry k entry) (slice_index (shape_in names right) 0)) is_n
    (subst (IsWithin (h.room + greatest_extent) h.known (behind_entry n entry)) is_m part)) in
    let two = fits-cat-right items statement moves within scan old left right entries h there in
    subst (λ s. AllByRecursion IsFit (on_axis 0 behind_entry s entries)) (sym shape)
    (fits-fit items statement moves within (scan_behind scan left) (old + cost items statement left) right
    (on_axis 0 behind_entry (shape_in names left) entries) two)

pub cat_form-place_behind-behind-requires-clause-few : goal.cat_form-place_behind-behind-requires-clause-few
cat_form-place_behind-behind-requires-clause-few t c =
    let pools = c.args.checked.now.pools in
    let items = items_in pools in
    let statement = c.args.place.statement in
    let names = names_at items statement in
    let moves = c.operand_laws.ensures.moves (shapes_of names) in
    let within = c.operand_laws.ensures.within (shapes_of names) in
    let scan = c.args.place.scan in
    let old = used c.args.pool.now in
    let entries = c.args.entries.now in
    let left = node_tree pools c.args.left in
    let right = node_tree pools c.args.right in
    let shape = c.requires.left_ready.nodes.shape in
    let other = c.requires.right_ready.nodes.shape in
    let n = c.first_extent_in-extent.result in
    let m = c.first_extent_in.result in
    let is_n = c.first_extent_in-extent.ensures.value ∙ ap (λ s. slice_index s 0) shape in
    let is_m = c.first_extent_in.ensures.value ∙ ap (λ s. slice_index s 0) other in
    let h = c.requires.fits in
    let entry = c.entry_on-entry.result in
    let inside = subst (λ k. IsWithin h.room h.known entry (k + m)) (sym is_n)
    (subst (λ k. IsWithin h.room h.known entry (slice_index (shape_in names left) 0 + k)) (sym is_m)
    (subst (λ e. IsWithin h.room h.known e (slice_index (shape_in names left) 0 + slice_index (shape_in names right) 0))
    (sym c.entry_on-entry.ensures) (cat-entry items statement moves within scan old left right entries h))) in
    let parts = c.reached.ensures.within h.room h.known inside in
    let part = subst (λ s. IsWithinSide s h.room h.known n m entry) c.in-Second.is parts in
    let there = subst (λ e. IsWithin (h.room + greatest_extent) h.known (behind_entry (slice_index (shape_in names left) 0) e)
    (slice_index (shape_in names right) 0)) c.entry_on-entry.ensures
    (subst (λ k. IsWithin (h.room + greatest_extent) h.known (behind_entry k entry) (slice_index (shape_in names right) 0)) is_n
    (subst (IsWithin (h.room + greatest_extent) h.known (behind_entry n entry)) is_m part)) in
    let two = fits-cat-right items statement moves within scan old left right entries h there in
    let areas = two.areas in omega (arith, areas)

pub cat_form-past_in-moved-requires-in-Both-clause-fits : goal.cat_form-past_in-moved-requires-in-Both-clause-fits
cat_form-past_in-moved-requires-in-Both-clause-fits t c =
    let pools = c.args.checked.now.pools in
    let items = items_in pools in
    let statement = c.args.place.statement in
    let names = names_at items statement in
    let moves = c.operand_laws.ensures.moves (shapes_of names) in
    let within = c.operand_laws.ensures.within (shapes_of names) in
    let scan = c.args.place.scan in
    let old = used c.args.pool.now in
    let entries = c.args.entries.now in
    let left = node_tree pools c.args.left in
    let right = node_tree pools c.args.right in
    let shape = c.requires.left_ready.nodes.shape in
    let other = c.requires.right_ready.nodes.shape in
    let n = c.first_extent_in-extent.result in
    let m = c.first_extent_in.result in
    let is_n = c.first_extent_in-extent.ensures.value ∙ ap (λ s. slice_index s 0) shape in
    let is_m = c.first_extent_in.ensures.value ∙ ap (λ s. slice_index s 0) other in
    let h = c.requires.fits in
    let entry = c.entry_on-entry.result in
    let inside = subst (λ k. IsWithin h.room h.known entry (k + m)) (sym is_n)
    (subst (λ k. IsWithin h.room h.known entry (slice_index (shape_in names left) 0 + k)) (sym is_m)
    (subst (λ e. IsWithin h.room h.known e (slice_index (shape_in names left) 0 + slice_index (shape_in names right) 0))
    (sym c.entry_on-entry.ensures) (cat-entry items statement moves within scan old left right entries h))) in
    let parts = c.reached.ensures.within h.room h.known inside in
    let part = subst (λ s. IsWithinSide s h.room h.known n m entry) c.in-Both.is parts in
    let there = subst (λ e. IsWithin (h.room + greatest_extent) h.known (behind_entry (slice_index (shape_in names left) 0) e)
    (slice_index (shape_in names right) 0)) c.entry_on-entry.ensures
    (subst (λ k. IsWithin (h.room + greatest_extent) h.known (behind_entry k entry) (slice_index (shape_in names right) 0)) is_n
    (subst (IsWithin (h.room + greatest_extent) h.known (behind_entry n entry)) is_m part.1)) in
    let two = fits-cat-right items statement moves within scan old left right entries h there in
    subst (λ s. AllByRecursion IsFit (on_axis 0 behind_entry s entries)) (sym shape)
    (fits-fit items statement moves within (scan_behind scan left) (old + cost items statement left) right
    (on_axis 0 behind_entry (shape_in names left) entries) two)

pub cat_form-place_behind-behind-requires-in-Both-clause-few : goal.cat_form-place_behind-behind-requires-in-Both-clause-few
cat_form-place_behind-behind-requires-in-Both-clause-few t c =
    let pools = c.args.checked.now.pools in
    let items = items_in pools in
    let statement = c.args.place.statement in
    let names = names_at items statement in
    let moves = c.operand_laws.ensures.moves (shapes_of names) in
    let within = c.operand_laws.ensures.within (shapes_of names) in
    let scan = c.args.place.scan in
    let old = used c.args.pool.now in
    let entries = c.args.entries.now in
    let left = node_tree pools c.args.left in
    let right = node_tree pools c.args.right in
    let shape = c.requires.left_ready.nodes.shape in
    let other = c.requires.right_ready.nodes.shape in
    let n = c.first_extent_in-extent.result in
    let m = c.first_extent_in.result in
    let is_n = c.first_extent_in-extent.ensures.value ∙ ap (λ s. slice_index s 0) shape in
    let is_m = c.first_extent_in.ensures.value ∙ ap (λ s. slice_index s 0) other in
    let h = c.requires.fits in
    let entry = c.entry_on-entry.result in
    let inside = subst (λ k. IsWithin h.room h.known entry (k + m)) (sym is_n)
    (subst (λ k. IsWithin h.room h.known entry (slice_index (shape_in names left) 0 + k)) (sym is_m)
    (subst (λ e. IsWithin h.room h.known e (slice_index (shape_in names left) 0 + slice_index (shape_in names right) 0))
    (sym c.entry_on-entry.ensures) (cat-entry items statement moves within scan old left right entries h))) in
    let parts = c.reached.ensures.within h.room h.known inside in
    let part = subst (λ s. IsWithinSide s h.room h.known n m entry) c.in-Both.is parts in
    let there = subst (λ e. IsWithin (h.room + greatest_extent) h.known (behind_entry (slice_index (shape_in names left) 0) e)
    (slice_index (shape_in names right) 0)) c.entry_on-entry.ensures
    (subst (λ k. IsWithin (h.room + greatest_extent) h.known (behind_entry k entry) (slice_index (shape_in names right) 0)) is_n
    (subst (IsWithin (h.room + greatest_extent) h.known (behind_entry n entry)) is_m part.1)) in
    let two = fits-cat-right items statement moves within scan old left right entries h there in
    let areas = two.areas in omega (arith, areas)

pub cat_form-case-requires-clause-room : goal.cat_form-case-requires-clause-room
cat_form-case-requires-clause-room t c =
    let pools = c.args.checked.now.pools in
    let items = items_in pools in
    let statement = c.args.place.statement in
    let names = names_at items statement in
    let prices = prices_at items statement in
    let old = used c.args.pool.now in
    let left = node_tree pools c.args.left in
    let right = node_tree pools c.args.right in
    let x = nodes prices left in
    let y = nodes prices right in
    let mid = used c.form_of-in-Both.new.pool in
    let last = used c.form_of-in-Both-2.new.pool in
    let same = ap (λ (p : Place). p.statement) c.place_behind-behind-in-Both.ensures in
    let second = subst (λ s. last ≤ mid + cost items s right) same c.in_ok-second-in-Both.ensures.grown in
    room-parts old mid last x y c.in_ok-first-in-Both.ensures.grown second c.requires.fits.terms

pub cat_form-returns-in-First-clause-grown : goal.cat_form-returns-in-First-clause-grown
cat_form-returns-in-First-clause-grown t c =
    let pools = c.args.checked.now.pools in
    let items = items_in pools in
    let statement = c.args.place.statement in
    let names = names_at items statement in
    let prices = prices_at items statement in
    let old = used c.args.pool.now in
    let left = node_tree pools c.args.left in
    let right = node_tree pools c.args.right in
    let x = nodes prices left in
    let y = nodes prices right in
    let new = used c.form_of.new.pool in
    more-made c.form_of.result new (old + 16 * x) (old + 16 * (1 + (x + y))) (made-left old new x y) c.form_of.ensures.grown

pub cat_form-returns-in-Second-clause-grown : goal.cat_form-returns-in-Second-clause-grown
cat_form-returns-in-Second-clause-grown t c =
    let pools = c.args.checked.now.pools in
    let items = items_in pools in
    let statement = c.args.place.statement in
    let names = names_at items statement in
    let prices = prices_at items statement in
    let old = used c.args.pool.now in
    let left = node_tree pools c.args.left in
    let right = node_tree pools c.args.right in
    let x = nodes prices left in
    let y = nodes prices right in
    let new = used c.form_of-in-Second.new.pool in
    let same = ap (λ (p : Place). p.statement) c.place_behind-behind.ensures in
    more-made c.form_of-in-Second.result new (old + 16 * y) (old + 16 * (1 + (x + y))) (made-right old new x y)
    (subst (λ s. IfOk c.form_of-in-Second.result (λ number. new ≤ old + cost items s right)) same c.form_of-in-Second.ensures.grown)

pub cat_form-returns-in_ok-second-in-Both-clause-grown : goal.cat_form-returns-in_ok-second-in-Both-clause-grown
cat_form-returns-in_ok-second-in-Both-clause-grown t c =
    let pools = c.args.checked.now.pools in
    let items = items_in pools in
    let statement = c.args.place.statement in
    let names = names_at items statement in
    let prices = prices_at items statement in
    let old = used c.args.pool.now in
    let left = node_tree pools c.args.left in
    let right = node_tree pools c.args.right in
    let x = nodes prices left in
    let y = nodes prices right in
    let mid = used c.form_of-in-Both.new.pool in
    let last = used c.form_of-in-Both-2.new.pool in
    let same = ap (λ (p : Place). p.statement) c.place_behind-behind-in-Both.ensures in
    let second = subst (λ s. last ≤ mid + cost items s right) same c.in_ok-second-in-Both.ensures.grown in
    let new = used c.case.new.self in
    one-made c.case.result new last (old + 16 * (1 + (x + y)))
    (λ e. made-both old new x y (made-parts old mid last new x y c.in_ok-first-in-Both.ensures.grown second e)) c.case.ensures.one

pub spread_form-digit_entry-requires-clause-some : goal.spread_form-digit_entry-requires-clause-some
spread_form-digit_entry-requires-clause-some t c =
    let pools = c.args.checked.now.pools in
    let items = items_in pools in
    let statement = c.args.place.statement in
    let names = names_at items statement in
    let moves = c.operand_laws.ensures.moves (shapes_of names) in
    let within = c.operand_laws.ensures.within (shapes_of names) in
    let scan = c.args.place.scan in
    let old = used c.args.pool.now in
    let tree = node_tree pools c.args.of in
    let flat = c.args.flat in
    let found = c.args.found.now in
    let axis = c.args.axis in
    let h = c.requires.fits in
    let shape = c.requires.shape ∙ c.requires.ready.nodes.shape in
    let count = ap (λ (s : List ℕ). length s) shape in
    let inside : axis < length (shape_in names tree) = let least = c.requires.axis in
    let other = c.if-axis-extents.false in
    let same = ap (λ (s : List ℕ). length s) c.extents.ensures.value in omega (arith, least, other, same, count) in
    let n = c.extent_on-n.result in
    let is = c.extent_on-n.ensures.value ∙ ap (λ s. slice_index s axis) shape in
    let some : 0 < n = subst (λ k. 0 < k) (sym is) (extent-some (shape_in names tree) axis inside
    ((c.operand_laws.ensures.spans (shape_in names tree)).0 (some-within h.room h.known flat (total (shape_in names tree)) h.offset))) in
    some

pub spread_form-put_in_front-requires : goal.spread_form-put_in_front-requires
spread_form-put_in_front-requires t c =
    let pools = c.args.checked.now.pools in
    let items = items_in pools in
    let statement = c.args.place.statement in
    let names = names_at items statement in
    let moves = c.operand_laws.ensures.moves (shapes_of names) in
    let within = c.operand_laws.ensures.within (shapes_of names) in
    let scan = c.args.place.scan in
    let old = used c.args.pool.now in
    let tree = node_tree pools c.args.of in
    let flat = c.args.flat in
    let found = c.args.found.now in
    let axis = c.args.axis in
    let h = c.requires.fits in
    let shape = c.requires.shape ∙ c.requires.ready.nodes.shape in
    let count = ap (λ (s : List ℕ). length s) shape in
    let inside : axis < length (shape_in names tree) = let least = c.requires.axis in
    let other = c.if-axis-extents.false in
    let same = ap (λ (s : List ℕ). length s) c.extents.ensures.value in omega (arith, least, other, same, count) in
    let n = c.extent_on-n.result in
    let is = c.extent_on-n.ensures.value ∙ ap (λ s. slice_index s axis) shape in
    found-few items statement moves within scan old axis tree flat found inside h

pub spread_form-put_in_front-requires-in-Bound : goal.spread_form-put_in_front-requires-in-Bound
spread_form-put_in_front-requires-in-Bound t c =
    let pools = c.args.checked.now.pools in
    let items = items_in pools in
    let statement = c.args.place.statement in
    let names = names_at items statement in
    let moves = c.operand_laws.ensures.moves (shapes_of names) in
    let within = c.operand_laws.ensures.within (shapes_of names) in
    let scan = c.args.place.scan in
    let old = used c.args.pool.now in
    let tree = node_tree pools c.args.of in
    let flat = c.args.flat in
    let found = c.args.found.now in
    let axis = c.args.axis in
    let h = c.requires.fits in
    let shape = c.requires.shape ∙ c.requires.ready.nodes.shape in
    let count = ap (λ (s : List ℕ). length s) shape in
    let inside : axis < length (shape_in names tree) = let least = c.requires.axis in
    let other = c.if-axis-extents.false in
    let same = ap (λ (s : List ℕ). length s) c.extents.ensures.value in omega (arith, least, other, same, count) in
    let n = c.extent_on-n.result in
    let is = c.extent_on-n.ensures.value ∙ ap (λ s. slice_index s axis) shape in
    found-few items statement moves within scan old axis tree flat found inside h

pub spread_form-fresh-var-requires : goal.spread_form-fresh-var-requires
spread_form-fresh-var-requires t c =
    let pools = c.args.checked.now.pools in
    let items = items_in pools in
    let statement = c.args.place.statement in
    let names = names_at items statement in
    let moves = c.operand_laws.ensures.moves (shapes_of names) in
    let within = c.operand_laws.ensures.within (shapes_of names) in
    let scan = c.args.place.scan in
    let old = used c.args.pool.now in
    let tree = node_tree pools c.args.of in
    let flat = c.args.flat in
    let found = c.args.found.now in
    let axis = c.args.axis in
    let h = c.requires.fits in
    let shape = c.requires.shape ∙ c.requires.ready.nodes.shape in
    let count = ap (λ (s : List ℕ). length s) shape in
    let inside : axis < length (shape_in names tree) = let least = c.requires.axis in
    let other = c.if-axis-extents.false in
    let same = ap (λ (s : List ℕ). length s) c.extents.ensures.value in omega (arith, least, other, same, count) in
    let n = c.extent_on-n.result in
    let is = c.extent_on-n.ensures.value ∙ ap (λ s. slice_index s axis) shape in
    let x = nodes (prices_at items statement) tree in
    room-digit old (length (shape_in names tree)) axis (16 * x) inside h.terms

pub spread_form-digit-requires-clause-room : goal.spread_form-digit-requires-clause-room
spread_form-digit-requires-clause-room t c =
    let pools = c.args.checked.now.pools in
    let items = items_in pools in
    let statement = c.args.place.statement in
    let names = names_at items statement in
    let moves = c.operand_laws.ensures.moves (shapes_of names) in
    let within = c.operand_laws.ensures.within (shapes_of names) in
    let scan = c.args.place.scan in
    let old = used c.args.pool.now in
    let tree = node_tree pools c.args.of in
    let flat = c.args.flat in
    let found = c.args.found.now in
    let axis = c.args.axis in
    let h = c.requires.fits in
    let shape = c.requires.shape ∙ c.requires.ready.nodes.shape in
    let count = ap (λ (s : List ℕ). length s) shape in
    let inside : axis < length (shape_in names tree) = let least = c.requires.axis in
    let other = c.if-axis-extents.false in
    let same = ap (λ (s : List ℕ). length s) c.extents.ensures.value in omega (arith, least, other, same, count) in
    let n = c.extent_on-n.result in
    let is = c.extent_on-n.ensures.value ∙ ap (λ s. slice_index s axis) shape in
    let x = nodes (prices_at items statement) tree in
    let few = length (shape_in names tree) in
    let fresh = fresh-used c.args.pool.now c.fresh-var.new.self c.fresh-var.result c.fresh-var.ensures in
    let mid = used c.spread_form-in-Bound.new.pool in
    room-bound old (used c.fresh-var.new.self) mid few (length c.args.shape.now) axis (16 * x) inside count fresh
    c.in_ok-term-in-Bound.ensures.grown h.terms

pub spread_form-returns-then-axis-extents-clause-grown : goal.spread_form-returns-then-axis-extents-clause-grown
spread_form-returns-then-axis-extents-clause-grown t c =
    let pools = c.args.checked.now.pools in
    let items = items_in pools in
    let statement = c.args.place.statement in
    let names = names_at items statement in
    let prices = prices_at items statement in
    let old = used c.args.pool.now in
    let tree = node_tree pools c.args.of in
    let x = nodes prices tree in
    let new = used c.form_of.new.pool in
    let axes = 2 * (length c.args.shape.now - c.args.axis) in
    more-made c.form_of.result new (old + 16 * x) (old + (axes + 16 * x)) (made-behind old new axes (16 * x)) c.form_of.ensures.grown

pub spread_form-returns-in-Found-clause-grown : goal.spread_form-returns-in-Found-clause-grown
spread_form-returns-in-Found-clause-grown t c =
    let pools = c.args.checked.now.pools in
    let items = items_in pools in
    let statement = c.args.place.statement in
    let names = names_at items statement in
    let moves = c.operand_laws.ensures.moves (shapes_of names) in
    let within = c.operand_laws.ensures.within (shapes_of names) in
    let scan = c.args.place.scan in
    let old = used c.args.pool.now in
    let tree = node_tree pools c.args.of in
    let flat = c.args.flat in
    let found = c.args.found.now in
    let axis = c.args.axis in
    let h = c.requires.fits in
    let shape = c.requires.shape ∙ c.requires.ready.nodes.shape in
    let count = ap (λ (s : List ℕ). length s) shape in
    let inside : axis < length (shape_in names tree) = let least = c.requires.axis in
    let other = c.if-axis-extents.false in
    let same = ap (λ (s : List ℕ). length s) c.extents.ensures.value in omega (arith, least, other, same, count) in
    let n = c.extent_on-n.result in
    let is = c.extent_on-n.ensures.value ∙ ap (λ s. slice_index s axis) shape in
    let x = nodes (prices_at items statement) tree in
    let few = length (shape_in names tree) in
    let new = used c.spread_form.new.pool in
    let axes = length c.args.shape.now in
    more-made c.spread_form.result new (old + (2 * (axes - (axis + 1)) + 16 * x)) (old + (2 * (axes - axis) + 16 * x))
    (made-found old new axes axis (16 * x)) c.spread_form.ensures.grown

pub spread_form-returns-in_ok-term-in-Bound-clause-grown : goal.spread_form-returns-in_ok-term-in-Bound-clause-grown
spread_form-returns-in_ok-term-in-Bound-clause-grown t c =
    let pools = c.args.checked.now.pools in
    let items = items_in pools in
    let statement = c.args.place.statement in
    let names = names_at items statement in
    let moves = c.operand_laws.ensures.moves (shapes_of names) in
    let within = c.operand_laws.ensures.within (shapes_of names) in
    let scan = c.args.place.scan in
    let old = used c.args.pool.now in
    let tree = node_tree pools c.args.of in
    let flat = c.args.flat in
    let found = c.args.found.now in
    let axis = c.args.axis in
    let h = c.requires.fits in
    let shape = c.requires.shape ∙ c.requires.ready.nodes.shape in
    let count = ap (λ (s : List ℕ). length s) shape in
    let inside : axis < length (shape_in names tree) = let least = c.requires.axis in
    let other = c.if-axis-extents.false in
    let same = ap (λ (s : List ℕ). length s) c.extents.ensures.value in omega (arith, least, other, same, count) in
    let n = c.extent_on-n.result in
    let is = c.extent_on-n.ensures.value ∙ ap (λ s. slice_index s axis) shape in
    let x = nodes (prices_at items statement) tree in
    let few = length (shape_in names tree) in
    let fresh = fresh-used c.args.pool.now c.fresh-var.new.self c.fresh-var.result c.fresh-var.ensures in
    let mid = used c.spread_form-in-Bound.new.pool in
    let new = used c.digit.new.self in
    let axes = length c.args.shape.now in
    one-made c.digit.result new mid (old + (2 * (axes - axis) + 16 * x))
    (made-bound old (used c.fresh-var.new.self) mid new few axes axis (16 * x) inside count fresh c.in_ok-term-in-Bound.ensures.grown)
    c.digit.ensures.one

pub offset_form-returns-then-extents-eq1-clause-grown : goal.offset_form-returns-then-extents-eq1-clause-grown
offset_form-returns-then-extents-eq1-clause-grown t c =
    let pools = c.args.checked.now.pools in
    let items = items_in pools in
    let statement = c.args.place.statement in
    let names = names_at items statement in
    let prices = prices_at items statement in
    let old = used c.args.pool.now in
    let tree = node_tree pools c.args.of in
    let x = nodes prices tree in
    let new = used c.form_of.new.pool in
    more-made c.form_of.result new (old + 16 * x) (old + (12 + 16 * x)) (made-behind old new 12 (16 * x)) c.form_of.ensures.grown

pub offset_form-returns-clause-grown : goal.offset_form-returns-clause-grown
offset_form-returns-clause-grown t c =
    let pools = c.args.checked.now.pools in
    let items = items_in pools in
    let statement = c.args.place.statement in
    let names = names_at items statement in
    let moves = c.operand_laws.ensures.moves (shapes_of names) in
    let within = c.operand_laws.ensures.within (shapes_of names) in
    let scan = c.args.place.scan in
    let old = used c.args.pool.now in
    let tree = node_tree pools c.args.of in
    let shape = c.shape_of-shape.ensures ∙ c.requires.ready.nodes.shape in
    let h = c.requires.fits in
    let x = nodes (prices_at items statement) tree in
    let new = used c.spread_form.new.pool in
    let axes = length c.shape_of-shape.result in
    let few = subst (λ (s : List ℕ). length s ≤ most_axes) (sym shape) (shape-few (shape_in names tree) ((within 0).shaped tree h.accepted)) in
    more-made c.spread_form.result new (old + (2 * (axes - 0) + 16 * x)) (old + (12 + 16 * x)) (made-spread old new axes (16 * x) few)
    c.spread_form.ensures.grown

pub flat_form-offset_in-requires-clause-places : goal.flat_form-offset_in-requires-clause-places
flat_form-offset_in-requires-clause-places t c =
    let pools = c.args.checked.now.pools in
    let items = items_in pools in
    let statement = c.args.place.statement in
    let names = names_at items statement in
    let moves = c.operand_laws.ensures.moves (shapes_of names) in
    let within = c.operand_laws.ensures.within (shapes_of names) in
    let scan = c.args.place.scan in
    let old = used c.args.pool.now in
    let entries = c.args.entries.now in
    let tree = node_tree pools c.args.of in
    let h = c.requires.fits in
    let shape = slice_index_or c.args.checked.now.shapes c.args.number [] in
    places-within h.room h.known entries shape h.within

pub flat_form-fresh-var-requires : goal.flat_form-fresh-var-requires
flat_form-fresh-var-requires t c =
    let pools = c.args.checked.now.pools in
    let items = items_in pools in
    let statement = c.args.place.statement in
    let names = names_at items statement in
    let moves = c.operand_laws.ensures.moves (shapes_of names) in
    let within = c.operand_laws.ensures.within (shapes_of names) in
    let scan = c.args.place.scan in
    let old = used c.args.pool.now in
    let entries = c.args.entries.now in
    let tree = node_tree pools c.args.of in
    let h = c.requires.fits in
    let shape = slice_index_or c.args.checked.now.shapes c.args.number [] in
    let x = nodes (prices_at items statement) tree in
    room-reshape old (16 * x) h.terms

pub flat_form-push_offset-requires-clause-room : goal.flat_form-push_offset-requires-clause-room
flat_form-push_offset-requires-clause-room t c =
    let pools = c.args.checked.now.pools in
    let items = items_in pools in
    let statement = c.args.place.statement in
    let names = names_at items statement in
    let moves = c.operand_laws.ensures.moves (shapes_of names) in
    let within = c.operand_laws.ensures.within (shapes_of names) in
    let scan = c.args.place.scan in
    let old = used c.args.pool.now in
    let entries = c.args.entries.now in
    let tree = node_tree pools c.args.of in
    let h = c.requires.fits in
    let shape = slice_index_or c.args.checked.now.shapes c.args.number [] in
    let fresh = fresh-used c.args.pool.now c.fresh-var.new.self c.fresh-var.result c.fresh-var.ensures in
    let x = nodes (prices_at items statement) tree in
    room-offset old (used c.fresh-var.new.self) (used c.offset_form-in-Bound.new.pool) (16 * x) fresh
    c.in_ok-term-in-Bound.ensures.grown h.terms

pub flat_form-returns-in-Found-clause-grown : goal.flat_form-returns-in-Found-clause-grown
flat_form-returns-in-Found-clause-grown t c =
    let pools = c.args.checked.now.pools in
    let items = items_in pools in
    let statement = c.args.place.statement in
    let names = names_at items statement in
    let prices = prices_at items statement in
    let old = used c.args.pool.now in
    let tree = node_tree pools c.args.of in
    let x = nodes prices tree in
    let new = used c.offset_form.new.pool in
    more-made c.offset_form.result new (old + (12 + 16 * x)) (old + (16 + 16 * x)) (made-offset old new (16 * x)) c.offset_form.ensures.grown

pub flat_form-returns-in_ok-term-in-Bound-clause-grown : goal.flat_form-returns-in_ok-term-in-Bound-clause-grown
flat_form-returns-in_ok-term-in-Bound-clause-grown t c =
    let pools = c.args.checked.now.pools in
    let items = items_in pools in
    let statement = c.args.place.statement in
    let names = names_at items statement in
    let prices = prices_at items statement in
    let old = used c.args.pool.now in
    let tree = node_tree pools c.args.of in
    let x = nodes prices tree in
    let fresh = fresh-used c.args.pool.now c.fresh-var.new.self c.fresh-var.result c.fresh-var.ensures in
    let mid = used c.offset_form-in-Bound.new.pool in
    let new = used c.push_offset.new.pool in
    one-made c.push_offset.result new mid (old + (16 + 16 * x))
    (made-flat old (used c.fresh-var.new.self) mid new (16 * x) fresh c.in_ok-term-in-Bound.ensures.grown) c.push_offset.ensures.one

pub reshape_form-returns-then-same_shapes-clause-grown : goal.reshape_form-returns-then-same_shapes-clause-grown
reshape_form-returns-then-same_shapes-clause-grown t c =
    let pools = c.args.checked.now.pools in
    let items = items_in pools in
    let statement = c.args.place.statement in
    let names = names_at items statement in
    let prices = prices_at items statement in
    let old = used c.args.pool.now in
    let tree = node_tree pools c.args.of in
    let x = nodes prices tree in
    let new = used c.form_of.new.pool in
    more-made c.form_of.result new (old + 16 * x) (old + (16 + 16 * x)) (made-behind old new 16 (16 * x)) c.form_of.ensures.grown

pub reshape_form-returns-then-is_scalar-clause-grown : goal.reshape_form-returns-then-is_scalar-clause-grown
reshape_form-returns-then-is_scalar-clause-grown t c =
    let pools = c.args.checked.now.pools in
    let items = items_in pools in
    let statement = c.args.place.statement in
    let names = names_at items statement in
    let prices = prices_at items statement in
    let old = used c.args.pool.now in
    let tree = node_tree pools c.args.of in
    let x = nodes prices tree in
    let new = used c.form_of-then-is_scalar.new.pool in
    more-made c.form_of-then-is_scalar.result new (old + 16 * x) (old + (16 + 16 * x)) (made-behind old new 16 (16 * x)) c.form_of-then-is_scalar.ensures.grown

pub use_form-meant_by-requires : goal.use_form-meant_by-requires
use_form-meant_by-requires t c =
    let checking = c.args.checked.now in
    let tables = c.args.tables.now in
    let items = items_in checking.pools in
    let statement = c.args.place.statement in
    let names = names_at items statement in
    let h = c.requires.fits in
    c.requires.scope.known statement c.args.name.now (c.operand_laws.ensures.uses (shapes_of names) c.args.name.now h.accepted)

pub use_form-returns-in-Given-clause-grown : goal.use_form-returns-in-Given-clause-grown
use_form-returns-in-Given-clause-grown t c =
    let checking = c.args.checked.now in
    let tables = c.args.tables.now in
    let items = items_in checking.pools in
    let statement = c.args.place.statement in
    let names = names_at items statement in
    let h = c.requires.fits in
    let other = c.in-Given.statement in
    let node = c.in-Given.node in
    let given = subst (IsNameMeantSo checking tables statement c.args.name.now) c.in-Given.is c.meant_by.ensures.so in
    let means = subst (IsMeant checking tables (beside nameless (names_at items statement) c.args.name.now).form) c.in-Given.is
    (c.meant_by.ensures.meant c.requires.scope.meant) in
    let tree = node_tree checking.pools node in
    subst (λ count. IfOk c.form_of.result (λ number. used c.form_of.new.pool ≤ used c.args.pool.now + 16 * count)) given.counted
    c.form_of.ensures.grown

pub node_form-returns-in-One-clause-grown : goal.node_form-returns-in-One-clause-grown
node_form-returns-in-One-clause-grown t c = rw c.in-One.is c.one_form.ensures.grown

pub one_form-form_of-requires : goal.one_form-form_of-requires
one_form-form_of-requires t c = (
  omega (arith, c.decreases),
  (
    c.requires.there,
    (
      c.requires.ready,
      (
          (let pools = c.args.checked.now.pools in
          let items = items_in pools in
          let statement = c.args.place.statement in
          let names = names_at items statement in
          let moves = c.operand_laws.ensures.moves (shapes_of names) in
          let within = c.operand_laws.ensures.within (shapes_of names) in
          let scan = c.args.place.scan in
          let old = used c.args.pool.now in
          let entries = c.args.entries.now in
          let tree = node_tree pools c.args.of in
          fits-one items statement moves within scan old c.args.op tree entries c.requires.fits)),
    ),
  ),
)

pub pair_form-form_of-requires-2 : goal.pair_form-form_of-requires-2
pair_form-form_of-requires-2 t c = (
  (let same = ap (λ (p : Place). p.statement) c.place_behind-behind.ensures in omega (arith, same, c.decreases)),
  (
    c.requires.second,
    (
      (subst (λ (p : Place). IsReadyHere c.args.checked.now c.args.tables.now p.statement c.args.right) (sym c.place_behind-behind.ensures)
          c.requires.right_ready),
      (
          (let pools = c.args.checked.now.pools in
          let items = items_in pools in
          let statement = c.args.place.statement in
          let prices = prices_at items statement in
          let left = node_tree pools c.args.left in
          let right = node_tree pools c.args.right in
          let x = nodes prices left in
          let y = nodes prices right in
          let old = used c.args.pool.now in
          let mid = used c.form_of.new.pool in
          subst (λ (p : Place). Fits items p.statement p.scan mid right c.args.at_right.now) (sym c.place_behind-behind.ensures)
          (fits-less items statement (scan_behind c.args.place.scan left) (old + cost items statement left) mid right c.args.at_right.now
          c.in_ok-first.ensures.grown c.requires.right_fits))),
    ),
  ),
)

pub reduce_form-form_of-requires : goal.reduce_form-form_of-requires
reduce_form-form_of-requires t c = (
  omega (arith, c.decreases),
  (
    c.requires.there,
    (
      c.requires.ready,
      (
          (let pools = c.args.checked.now.pools in
          let items = items_in pools in
          let statement = c.args.place.statement in
          let names = names_at items statement in
          let moves = c.operand_laws.ensures.moves (shapes_of names) in
          let within = c.operand_laws.ensures.within (shapes_of names) in
          let scan = c.args.place.scan in
          let old = used c.args.pool.now in
          let entries = c.args.entries.now in
          let tree = node_tree pools c.args.of in
          let shape = c.requires.ready.nodes.shape in
          let extent = c.first_extent_in-extent.ensures.value ∙ ap (λ s. slice_index s 0) shape in
          let none = c.if-extent-eq0.false in
          let some : 0 < slice_index (shape_in names tree) 0 = subst (λ n. 0 < n) extent (not-none c.first_extent_in-extent.result none) in
          let next = fits-reduce items statement moves within scan old c.fresh-var.result c.args.fold tree entries some c.requires.fits in
          let fresh = fresh-used c.args.pool.now c.fresh-var.new.self c.fresh-var.result c.fresh-var.ensures in
          subst (λ count. Fits items statement scan count tree c.in_front-moved.result) (sym fresh)
          (subst (Fits items statement scan (suc old) tree) (sym (c.in_front-moved.ensures ∙ ap (λ k. k ∷ entries) c.variable.ensures)) next))),
    ),
  ),
)

pub psi_form-form_of-requires : goal.psi_form-form_of-requires
psi_form-form_of-requires t c = (
  omega (arith, c.decreases),
  (
    c.requires.there,
    (
      c.requires.ready,
      (
          (let pools = c.args.checked.now.pools in
          let items = items_in pools in
          let statement = c.args.place.statement in
          let names = names_at items statement in
          let moves = c.operand_laws.ensures.moves (shapes_of names) in
          let within = c.operand_laws.ensures.within (shapes_of names) in
          let scan = c.args.place.scan in
          let old = used c.args.pool.now in
          let entries = c.args.entries.now in
          let tree = node_tree pools c.args.of in
          let list = list_at pools.numbers c.args.list in
          let next = fits-psi items statement moves within scan old list tree entries c.requires.fits in
          subst (Fits items statement scan old tree) (sym (c.indexed-moved.ensures.indexed ∙ ap (λ l. map At l ++ entries) c.list_of.ensures)) next)),
    ),
  ),
)

pub take_form-form_of-requires : goal.take_form-form_of-requires
take_form-form_of-requires t c = (
  omega (arith, c.decreases),
  (
    c.requires.there,
    (
      c.requires.ready,
      (
          (let pools = c.args.checked.now.pools in
          let items = items_in pools in
          let statement = c.args.place.statement in
          let names = names_at items statement in
          let moves = c.operand_laws.ensures.moves (shapes_of names) in
          let within = c.operand_laws.ensures.within (shapes_of names) in
          let scan = c.args.place.scan in
          let old = used c.args.pool.now in
          let entries = c.args.entries.now in
          let tree = node_tree pools c.args.of in
          let list = list_at pools.numbers c.args.list in
          let next = fits-take items statement moves within scan old list tree entries c.requires.fits in
          subst (Fits items statement scan old tree) (sym (c.taken-moved.ensures ∙ ap (λ l. each_place taken_entry l c.shape_of.result entries) c.list_of.ensures
          ∙ ap (λ s. each_place taken_entry list s entries) (c.shape_of.ensures ∙ c.requires.ready.nodes.shape))) next)),
    ),
  ),
)

pub drop_form-form_of-requires : goal.drop_form-form_of-requires
drop_form-form_of-requires t c = (
  omega (arith, c.decreases),
  (
    c.requires.there,
    (
      c.requires.ready,
      (
          (let pools = c.args.checked.now.pools in
          let items = items_in pools in
          let statement = c.args.place.statement in
          let names = names_at items statement in
          let moves = c.operand_laws.ensures.moves (shapes_of names) in
          let within = c.operand_laws.ensures.within (shapes_of names) in
          let scan = c.args.place.scan in
          let old = used c.args.pool.now in
          let entries = c.args.entries.now in
          let tree = node_tree pools c.args.of in
          let list = list_at pools.numbers c.args.list in
          let next = fits-drop items statement moves within scan old list tree entries c.requires.fits in
          subst (Fits items statement scan old tree) (sym (c.dropped-moved.ensures ∙ ap (λ l. each_place remaining_entry l c.shape_of.result entries) c.list_of.ensures
          ∙ ap (λ s. each_place remaining_entry list s entries) (c.shape_of.ensures ∙ c.requires.ready.nodes.shape))) next)),
    ),
  ),
)

pub permute_form-form_of-requires : goal.permute_form-form_of-requires
permute_form-form_of-requires t c = (
  omega (arith, c.decreases),
  (
    c.requires.there,
    (
      c.requires.ready,
      (
          (let pools = c.args.checked.now.pools in
          let items = items_in pools in
          let statement = c.args.place.statement in
          let names = names_at items statement in
          let moves = c.operand_laws.ensures.moves (shapes_of names) in
          let within = c.operand_laws.ensures.within (shapes_of names) in
          let scan = c.args.place.scan in
          let old = used c.args.pool.now in
          let entries = c.args.entries.now in
          let tree = node_tree pools c.args.of in
          let list = list_at pools.numbers c.args.list in
          let next = fits-permute items statement moves within scan old list tree entries c.requires.fits in
          subst (Fits items statement scan old tree) (sym (c.restored-moved.ensures ∙ ap (λ l. restored (At (pos 0)) (naturals l) entries) c.list_of.ensures)) next)),
    ),
  ),
)

pub reverse_form-form_of-requires : goal.reverse_form-form_of-requires
reverse_form-form_of-requires t c = (
  omega (arith, c.decreases),
  (
    c.requires.there,
    (
      c.requires.ready,
      (
          (let pools = c.args.checked.now.pools in
          let items = items_in pools in
          let statement = c.args.place.statement in
          let names = names_at items statement in
          let moves = c.operand_laws.ensures.moves (shapes_of names) in
          let within = c.operand_laws.ensures.within (shapes_of names) in
          let scan = c.args.place.scan in
          let old = used c.args.pool.now in
          let entries = c.args.entries.now in
          let tree = node_tree pools c.args.of in
          let next = fits-reverse items statement moves within scan old tree entries c.requires.fits in
          subst (Fits items statement scan old tree) (sym (c.reversed-moved.ensures ∙ ap (λ s. on_axis 0 mirrored_entry s entries) (c.shape_of.ensures ∙ c.requires.ready.nodes.shape))) next)),
    ),
  ),
)

pub rotate_form-form_of-requires : goal.rotate_form-form_of-requires
rotate_form-form_of-requires t c = (
  omega (arith, c.decreases),
  (
    c.requires.there,
    (
      c.requires.ready,
      (
          (let pools = c.args.checked.now.pools in
          let items = items_in pools in
          let statement = c.args.place.statement in
          let names = names_at items statement in
          let moves = c.operand_laws.ensures.moves (shapes_of names) in
          let within = c.operand_laws.ensures.within (shapes_of names) in
          let scan = c.args.place.scan in
          let old = used c.args.pool.now in
          let entries = c.args.entries.now in
          let tree = node_tree pools c.args.of in
          let shape = c.requires.ready.nodes.shape in
          let extent = c.first_extent_in-extent.ensures.value ∙ ap (λ s. slice_index s 0) shape in
          let h = c.requires.fits in
          let inside = subst (λ n. IsWithin h.room h.known c.entry_on-entry.result n) (sym extent)
          (subst (λ e. IsWithin h.room h.known e (slice_index (shape_in names tree) 0)) (sym c.entry_on-entry.ensures)
          (rotate-entry items statement moves within scan old c.args.by.now tree entries h)) in
          let n = c.first_extent_in-extent.result in
          let found = c.in-Found.found in
          let fine = subst (λ turn. IsTurnWithin turn h.room h.known n) c.in-Found.is (c.turn_entry.ensures.within h.room h.known inside) in
          let next = fits-rotate items statement moves within scan old c.args.by.now tree entries found h
          (subst (IsWithin h.room h.known found) extent fine) in
          subst (Fits items statement scan old tree)
          (sym (c.replaced_in-moved.ensures ∙ ap (λ s. on_axis 0 (λ extent old. found) s entries) shape)) next)),
    ),
  ),
)

pub rotate_form-form_of-requires-in-Bound : goal.rotate_form-form_of-requires-in-Bound
rotate_form-form_of-requires-in-Bound t c = (
  omega (arith, c.decreases),
  (
    c.requires.there,
    (
      c.requires.ready,
      (
          (let pools = c.args.checked.now.pools in
          let items = items_in pools in
          let statement = c.args.place.statement in
          let names = names_at items statement in
          let moves = c.operand_laws.ensures.moves (shapes_of names) in
          let within = c.operand_laws.ensures.within (shapes_of names) in
          let scan = c.args.place.scan in
          let old = used c.args.pool.now in
          let entries = c.args.entries.now in
          let tree = node_tree pools c.args.of in
          let fresh = fresh-used c.args.pool.now c.fresh-var.new.self c.fresh-var.result c.fresh-var.ensures in
          let shape = c.requires.ready.nodes.shape in
          let var = c.fresh-var.result in
          let next = fits-rotate-bound items statement moves within scan old var c.args.by.now tree entries c.requires.fits in
          subst (λ count. Fits items statement scan count tree c.replaced_in-moved-in-Bound.result) (sym fresh)
          (subst (Fits items statement scan (suc old) tree)
          (sym (c.replaced_in-moved-in-Bound.ensures ∙ ap (λ k. on_axis 0 (λ extent old. k) (slice_index_or c.args.checked.now.shapes c.args.of []) entries) c.variable.ensures
          ∙ ap (λ s. on_axis 0 (λ extent old. variable var) s entries) shape)) next))),
    ),
  ),
)

pub cat_form-form_of-requires : goal.cat_form-form_of-requires
cat_form-form_of-requires t c = (
  omega (arith, c.decreases),
  (
    c.requires.first,
    (
      c.requires.left_ready,
      (
          (let pools = c.args.checked.now.pools in
          let items = items_in pools in
          let statement = c.args.place.statement in
          let names = names_at items statement in
          let moves = c.operand_laws.ensures.moves (shapes_of names) in
          let within = c.operand_laws.ensures.within (shapes_of names) in
          let scan = c.args.place.scan in
          let old = used c.args.pool.now in
          let entries = c.args.entries.now in
          let left = node_tree pools c.args.left in
          let right = node_tree pools c.args.right in
          let shape = c.requires.left_ready.nodes.shape in
          let other = c.requires.right_ready.nodes.shape in
          let n = c.first_extent_in-extent.result in
          let m = c.first_extent_in.result in
          let is_n = c.first_extent_in-extent.ensures.value ∙ ap (λ s. slice_index s 0) shape in
          let is_m = c.first_extent_in.ensures.value ∙ ap (λ s. slice_index s 0) other in
          let h = c.requires.fits in
          let entry = c.entry_on-entry.result in
          let inside = subst (λ k. IsWithin h.room h.known entry (k + m)) (sym is_n)
          (subst (λ k. IsWithin h.room h.known entry (slice_index (shape_in names left) 0 + k)) (sym is_m)
          (subst (λ e. IsWithin h.room h.known e (slice_index (shape_in names left) 0 + slice_index (shape_in names right) 0))
          (sym c.entry_on-entry.ensures) (cat-entry items statement moves within scan old left right entries h))) in
          let parts = c.reached.ensures.within h.room h.known inside in
          let part = subst (λ s. IsWithinSide s h.room h.known n m entry) c.in-First.is parts in
          let here = subst (λ e. IsWithin h.room h.known e (slice_index (shape_in names left) 0)) c.entry_on-entry.ensures
          (subst (IsWithin h.room h.known entry) is_n part) in
          let one = fits-cat-left items statement moves within scan old left right entries h here in
          one)),
    ),
  ),
)

pub cat_form-form_of-requires-in-Second : goal.cat_form-form_of-requires-in-Second
cat_form-form_of-requires-in-Second t c = (
  (let same = ap (λ (p : Place). p.statement) c.place_behind-behind.ensures in omega (arith, same, c.decreases)),
  (
    c.requires.second,
    (
      (subst (λ (p : Place). IsReadyHere c.args.checked.now c.args.tables.now p.statement c.args.right) (sym c.place_behind-behind.ensures)
          c.requires.right_ready),
      (
          (let pools = c.args.checked.now.pools in
          let items = items_in pools in
          let statement = c.args.place.statement in
          let names = names_at items statement in
          let moves = c.operand_laws.ensures.moves (shapes_of names) in
          let within = c.operand_laws.ensures.within (shapes_of names) in
          let scan = c.args.place.scan in
          let old = used c.args.pool.now in
          let entries = c.args.entries.now in
          let left = node_tree pools c.args.left in
          let right = node_tree pools c.args.right in
          let shape = c.requires.left_ready.nodes.shape in
          let other = c.requires.right_ready.nodes.shape in
          let n = c.first_extent_in-extent.result in
          let m = c.first_extent_in.result in
          let is_n = c.first_extent_in-extent.ensures.value ∙ ap (λ s. slice_index s 0) shape in
          let is_m = c.first_extent_in.ensures.value ∙ ap (λ s. slice_index s 0) other in
          let h = c.requires.fits in
          let entry = c.entry_on-entry.result in
          let inside = subst (λ k. IsWithin h.room h.known entry (k + m)) (sym is_n)
          (subst (λ k. IsWithin h.room h.known entry (slice_index (shape_in names left) 0 + k)) (sym is_m)
          (subst (λ e. IsWithin h.room h.known e (slice_index (shape_in names left) 0 + slice_index (shape_in names right) 0))
          (sym c.entry_on-entry.ensures) (cat-entry items statement moves within scan old left right entries h))) in
          let parts = c.reached.ensures.within h.room h.known inside in
          let part = subst (λ s. IsWithinSide s h.room h.known n m entry) c.in-Second.is parts in
          let there = subst (λ e. IsWithin (h.room + greatest_extent) h.known (behind_entry (slice_index (shape_in names left) 0) e)
          (slice_index (shape_in names right) 0)) c.entry_on-entry.ensures
          (subst (λ k. IsWithin (h.room + greatest_extent) h.known (behind_entry k entry) (slice_index (shape_in names right) 0)) is_n
          (subst (IsWithin (h.room + greatest_extent) h.known (behind_entry n entry)) is_m part)) in
          let two = fits-cat-right items statement moves within scan old left right entries h there in
          let path = c.past_in-moved.ensures ∙ ap (λ s. on_axis 0 behind_entry s entries) shape in
          subst (λ (p : Place). Fits items p.statement p.scan old right c.past_in-moved.result) (sym c.place_behind-behind.ensures)
          (subst (Fits items statement (scan_behind scan left) old right) (sym path)
          (fits-less items statement (scan_behind scan left) (old + cost items statement left) old right
          (on_axis 0 behind_entry (shape_in names left) entries) (omega arith) two)))),
    ),
  ),
)

pub cat_form-form_of-requires-in-Both : goal.cat_form-form_of-requires-in-Both
cat_form-form_of-requires-in-Both t c = (
  omega (arith, c.decreases),
  (
    c.requires.first,
    (
      c.requires.left_ready,
      (
          (let pools = c.args.checked.now.pools in
          let items = items_in pools in
          let statement = c.args.place.statement in
          let names = names_at items statement in
          let moves = c.operand_laws.ensures.moves (shapes_of names) in
          let within = c.operand_laws.ensures.within (shapes_of names) in
          let scan = c.args.place.scan in
          let old = used c.args.pool.now in
          let entries = c.args.entries.now in
          let left = node_tree pools c.args.left in
          let right = node_tree pools c.args.right in
          let shape = c.requires.left_ready.nodes.shape in
          let other = c.requires.right_ready.nodes.shape in
          let n = c.first_extent_in-extent.result in
          let m = c.first_extent_in.result in
          let is_n = c.first_extent_in-extent.ensures.value ∙ ap (λ s. slice_index s 0) shape in
          let is_m = c.first_extent_in.ensures.value ∙ ap (λ s. slice_index s 0) other in
          let h = c.requires.fits in
          let entry = c.entry_on-entry.result in
          let inside = subst (λ k. IsWithin h.room h.known entry (k + m)) (sym is_n)
          (subst (λ k. IsWithin h.room h.known entry (slice_index (shape_in names left) 0 + k)) (sym is_m)
          (subst (λ e. IsWithin h.room h.known e (slice_index (shape_in names left) 0 + slice_index (shape_in names right) 0))
          (sym c.entry_on-entry.ensures) (cat-entry items statement moves within scan old left right entries h))) in
          let parts = c.reached.ensures.within h.room h.known inside in
          let part = subst (λ s. IsWithinSide s h.room h.known n m entry) c.in-Both.is parts in
          let here = subst (λ e. IsWithin h.room h.known e (slice_index (shape_in names left) 0)) c.entry_on-entry.ensures
          (subst (IsWithin h.room h.known entry) is_n part.0) in
          let one = fits-cat-left items statement moves within scan old left right entries h here in
          one)),
    ),
  ),
)

pub cat_form-form_of-requires-in-Both-2 : goal.cat_form-form_of-requires-in-Both-2
cat_form-form_of-requires-in-Both-2 t c = (
  (let same = ap (λ (p : Place). p.statement) c.place_behind-behind-in-Both.ensures in omega (arith, same, c.decreases)),
  (
    c.requires.second,
    (
      (subst (λ (p : Place). IsReadyHere c.args.checked.now c.args.tables.now p.statement c.args.right) (sym c.place_behind-behind-in-Both.ensures)
          c.requires.right_ready),
      (
          (let pools = c.args.checked.now.pools in
          let items = items_in pools in
          let statement = c.args.place.statement in
          let names = names_at items statement in
          let moves = c.operand_laws.ensures.moves (shapes_of names) in
          let within = c.operand_laws.ensures.within (shapes_of names) in
          let scan = c.args.place.scan in
          let old = used c.args.pool.now in
          let entries = c.args.entries.now in
          let left = node_tree pools c.args.left in
          let right = node_tree pools c.args.right in
          let shape = c.requires.left_ready.nodes.shape in
          let other = c.requires.right_ready.nodes.shape in
          let n = c.first_extent_in-extent.result in
          let m = c.first_extent_in.result in
          let is_n = c.first_extent_in-extent.ensures.value ∙ ap (λ s. slice_index s 0) shape in
          let is_m = c.first_extent_in.ensures.value ∙ ap (λ s. slice_index s 0) other in
          let h = c.requires.fits in
          let entry = c.entry_on-entry.result in
          let inside = subst (λ k. IsWithin h.room h.known entry (k + m)) (sym is_n)
          (subst (λ k. IsWithin h.room h.known entry (slice_index (shape_in names left) 0 + k)) (sym is_m)
          (subst (λ e. IsWithin h.room h.known e (slice_index (shape_in names left) 0 + slice_index (shape_in names right) 0))
          (sym c.entry_on-entry.ensures) (cat-entry items statement moves within scan old left right entries h))) in
          let parts = c.reached.ensures.within h.room h.known inside in
          let part = subst (λ s. IsWithinSide s h.room h.known n m entry) c.in-Both.is parts in
          let there = subst (λ e. IsWithin (h.room + greatest_extent) h.known (behind_entry (slice_index (shape_in names left) 0) e)
          (slice_index (shape_in names right) 0)) c.entry_on-entry.ensures
          (subst (λ k. IsWithin (h.room + greatest_extent) h.known (behind_entry k entry) (slice_index (shape_in names right) 0)) is_n
          (subst (IsWithin (h.room + greatest_extent) h.known (behind_entry n entry)) is_m part.1)) in
          let two = fits-cat-right items statement moves within scan old left right entries h there in
          let path = c.past_in-moved-in-Both.ensures ∙ ap (λ s. on_axis 0 behind_entry s entries) shape in
          subst (λ (p : Place). Fits items p.statement p.scan (used c.form_of-in-Both.new.pool) right c.past_in-moved-in-Both.result) (sym c.place_behind-behind-in-Both.ensures)
          (subst (Fits items statement (scan_behind scan left) (used c.form_of-in-Both.new.pool) right) (sym path)
          (fits-less items statement (scan_behind scan left) (old + cost items statement left) (used c.form_of-in-Both.new.pool) right
          (on_axis 0 behind_entry (shape_in names left) entries) c.in_ok-first-in-Both.ensures.grown two)))),
    ),
  ),
)

pub spread_form-form_of-requires : goal.spread_form-form_of-requires
spread_form-form_of-requires t c = (
  omega (arith, c.decreases),
  (
    c.requires.there,
    (
      c.requires.ready,
      (
          (let pools = c.args.checked.now.pools in
          let items = items_in pools in
          let statement = c.args.place.statement in
          let names = names_at items statement in
          let moves = c.operand_laws.ensures.moves (shapes_of names) in
          let within = c.operand_laws.ensures.within (shapes_of names) in
          let scan = c.args.place.scan in
          let old = used c.args.pool.now in
          let tree = node_tree pools c.args.of in
          let flat = c.args.flat in
          let found = c.args.found.now in
          let axis = c.args.axis in
          let h = c.requires.fits in
          let shape = c.requires.shape ∙ c.requires.ready.nodes.shape in
          let count = ap (λ (s : List ℕ). length s) shape in
          let all : axis ≡ length (shape_in names tree) =
          let same = ap (λ (s : List ℕ). length s) c.extents.ensures.value in omega (arith, c.if-axis-extents.true, same, count) in
          subst (Fits items statement scan old tree) (sym c.turn_round.ensures)
          (fits-spread items statement moves within scan old axis tree flat found all h))),
    ),
  ),
)

pub spread_form-spread_form-requires : goal.spread_form-spread_form-requires
spread_form-spread_form-requires t c = (
  (let least = c.requires.axis in
      let other = c.if-axis-extents.false in
      let same = ap (λ (s : List ℕ). length s) c.extents.ensures.value in omega (arith, least, other, same, c.decreases)),
  (
    c.requires.there,
    (
      c.requires.shape,
      (
        (let least = c.requires.axis in
            let other = c.if-axis-extents.false in
            let same = ap (λ (s : List ℕ). length s) c.extents.ensures.value in omega (arith, least, other, same)),
        (
          c.requires.ready,
          (
              (let pools = c.args.checked.now.pools in
              let items = items_in pools in
              let statement = c.args.place.statement in
              let names = names_at items statement in
              let moves = c.operand_laws.ensures.moves (shapes_of names) in
              let within = c.operand_laws.ensures.within (shapes_of names) in
              let scan = c.args.place.scan in
              let old = used c.args.pool.now in
              let tree = node_tree pools c.args.of in
              let flat = c.args.flat in
              let found = c.args.found.now in
              let axis = c.args.axis in
              let h = c.requires.fits in
              let shape = c.requires.shape ∙ c.requires.ready.nodes.shape in
              let count = ap (λ (s : List ℕ). length s) shape in
              let inside : axis < length (shape_in names tree) = let least = c.requires.axis in
              let other = c.if-axis-extents.false in
              let same = ap (λ (s : List ℕ). length s) c.extents.ensures.value in omega (arith, least, other, same, count) in
              let n = c.extent_on-n.result in
              let is = c.extent_on-n.ensures.value ∙ ap (λ s. slice_index s axis) shape in
              let entry = c.in-Found.entry in
              let fine = subst (λ digit. IsDigitWithin digit h.room h.known n) c.in-Found.is (c.digit_entry.ensures.within h.room h.known) in
              let next : suc axis ≡ axis + 1 = omega arith in
              subst (λ k. FitsAt items statement scan old tree k flat c.put_in_front.new.entries) next
              (subst (FitsAt items statement scan old tree (suc axis) flat) (sym c.put_in_front.ensures)
              (fits-digit items statement moves within scan old axis n tree flat entry found inside is h fine)))),
        ),
      ),
    ),
  ),
)

pub spread_form-spread_form-requires-in-Bound : goal.spread_form-spread_form-requires-in-Bound
spread_form-spread_form-requires-in-Bound t c = (
  (let least = c.requires.axis in
      let other = c.if-axis-extents.false in
      let same = ap (λ (s : List ℕ). length s) c.extents.ensures.value in omega (arith, least, other, same, c.decreases)),
  (
    c.requires.there,
    (
      c.requires.shape,
      (
        (let least = c.requires.axis in
            let other = c.if-axis-extents.false in
            let same = ap (λ (s : List ℕ). length s) c.extents.ensures.value in omega (arith, least, other, same)),
        (
          c.requires.ready,
          (
              (let pools = c.args.checked.now.pools in
              let items = items_in pools in
              let statement = c.args.place.statement in
              let names = names_at items statement in
              let moves = c.operand_laws.ensures.moves (shapes_of names) in
              let within = c.operand_laws.ensures.within (shapes_of names) in
              let scan = c.args.place.scan in
              let old = used c.args.pool.now in
              let tree = node_tree pools c.args.of in
              let flat = c.args.flat in
              let found = c.args.found.now in
              let axis = c.args.axis in
              let h = c.requires.fits in
              let shape = c.requires.shape ∙ c.requires.ready.nodes.shape in
              let count = ap (λ (s : List ℕ). length s) shape in
              let inside : axis < length (shape_in names tree) = let least = c.requires.axis in
              let other = c.if-axis-extents.false in
              let same = ap (λ (s : List ℕ). length s) c.extents.ensures.value in omega (arith, least, other, same, count) in
              let n = c.extent_on-n.result in
              let is = c.extent_on-n.ensures.value ∙ ap (λ s. slice_index s axis) shape in
              let fresh = fresh-used c.args.pool.now c.fresh-var.new.self c.fresh-var.result c.fresh-var.ensures in
              let some : 0 < n = subst (λ k. 0 < k) (sym is) (extent-some (shape_in names tree) axis inside
              ((c.operand_laws.ensures.spans (shape_in names tree)).0 (some-within h.room h.known flat (total (shape_in names tree)) h.offset))) in
              let var = c.fresh-var.result in
              let next : suc axis ≡ axis + 1 = omega arith in
              subst (λ k. FitsAt items statement scan (used c.fresh-var.new.self) tree k flat c.put_in_front-in-Bound.new.entries) next
              (subst (λ used_now. FitsAt items statement scan used_now tree (suc axis) flat c.put_in_front-in-Bound.new.entries) (sym fresh)
              (subst (FitsAt items statement scan (suc old) tree (suc axis) flat)
              (sym (c.put_in_front-in-Bound.ensures ∙ ap (λ entry. entry ∷ found) c.variable.ensures))
              (fits-digit-bound items statement moves within scan old var axis n tree flat found inside is some h))))),
        ),
      ),
    ),
  ),
)

pub offset_form-form_of-requires : goal.offset_form-form_of-requires
offset_form-form_of-requires t c = (
  omega (arith, c.decreases),
  (
    c.requires.there,
    (
      c.requires.ready,
      (
          (let pools = c.args.checked.now.pools in
          let items = items_in pools in
          let statement = c.args.place.statement in
          let names = names_at items statement in
          let moves = c.operand_laws.ensures.moves (shapes_of names) in
          let within = c.operand_laws.ensures.within (shapes_of names) in
          let scan = c.args.place.scan in
          let old = used c.args.pool.now in
          let tree = node_tree pools c.args.of in
          let shape = c.shape_of-shape.ensures ∙ c.requires.ready.nodes.shape in
          let h = c.requires.fits in
          let one : length (shape_in names tree) ≡ 1 =
          let same = ap (λ (s : List ℕ). length s) (c.extents.ensures.value ∙ shape) in omega (arith, c.if-extents-eq1.true, same) in
          subst (Fits items statement scan old tree) (sym (c.put_in_front.ensures ∙ ap (λ l. c.args.flat ∷ l) c.listed-found.ensures))
          (fits-only items statement moves within scan old tree c.args.flat one h))),
    ),
  ),
)

pub offset_form-spread_form-requires : goal.offset_form-spread_form-requires
offset_form-spread_form-requires t c = (
  (let few = shape-few (shape_in (names_at (items_in c.args.checked.now.pools) c.args.place.statement) (node_tree c.args.checked.now.pools c.args.of))
      ((c.operand_laws.ensures.within (shapes_of (names_at (items_in c.args.checked.now.pools) c.args.place.statement)) 0).shaped (node_tree c.args.checked.now.pools c.args.of)
      c.requires.fits.accepted) in
      let same = ap (λ (s : List ℕ). length s) (c.shape_of-shape.ensures ∙ c.requires.ready.nodes.shape) in omega (arith, few, same, c.decreases)),
  (
    c.requires.there,
    (
      (c.shape_of-shape.ensures),
      (
        omega arith,
        (
          c.requires.ready,
          (
              (let pools = c.args.checked.now.pools in
              let items = items_in pools in
              let statement = c.args.place.statement in
              let names = names_at items statement in
              let moves = c.operand_laws.ensures.moves (shapes_of names) in
              let within = c.operand_laws.ensures.within (shapes_of names) in
              let scan = c.args.place.scan in
              let old = used c.args.pool.now in
              let tree = node_tree pools c.args.of in
              let shape = c.shape_of-shape.ensures ∙ c.requires.ready.nodes.shape in
              let h = c.requires.fits in
              subst (FitsAt items statement scan old tree 0 c.args.flat) (sym c.listed-found.ensures) h)),
        ),
      ),
    ),
  ),
)

pub flat_form-offset_form-requires : goal.flat_form-offset_form-requires
flat_form-offset_form-requires t c = (
  omega (arith, c.decreases),
  (
    c.requires.there,
    (
      c.requires.ready,
      (
          (let pools = c.args.checked.now.pools in
          let items = items_in pools in
          let statement = c.args.place.statement in
          let names = names_at items statement in
          let moves = c.operand_laws.ensures.moves (shapes_of names) in
          let within = c.operand_laws.ensures.within (shapes_of names) in
          let scan = c.args.place.scan in
          let old = used c.args.pool.now in
          let entries = c.args.entries.now in
          let tree = node_tree pools c.args.of in
          let h = c.requires.fits in
          let shape = slice_index_or c.args.checked.now.shapes c.args.number [] in
          let flat = c.in-Found.flat in
          fits-flat items statement moves within scan old tree shape entries flat h
          (subst (λ offset. IsDigitWithin offset h.room h.known (total shape)) c.in-Found.is (c.offset_in.ensures.within h.room h.known h.within)))),
    ),
  ),
)

pub flat_form-offset_form-requires-in-Bound : goal.flat_form-offset_form-requires-in-Bound
flat_form-offset_form-requires-in-Bound t c = (
  omega (arith, c.decreases),
  (
    c.requires.there,
    (
      c.requires.ready,
      (
          (let pools = c.args.checked.now.pools in
          let items = items_in pools in
          let statement = c.args.place.statement in
          let names = names_at items statement in
          let moves = c.operand_laws.ensures.moves (shapes_of names) in
          let within = c.operand_laws.ensures.within (shapes_of names) in
          let scan = c.args.place.scan in
          let old = used c.args.pool.now in
          let entries = c.args.entries.now in
          let tree = node_tree pools c.args.of in
          let h = c.requires.fits in
          let shape = slice_index_or c.args.checked.now.shapes c.args.number [] in
          let fresh = fresh-used c.args.pool.now c.fresh-var.new.self c.fresh-var.result c.fresh-var.ensures in
          let var = c.fresh-var.result in
          let some = (c.operand_laws.ensures.spans shape).1 (all-some h.room h.known entries shape h.within) in
          subst (λ count. FitsAt items statement scan count tree 0 c.variable.result []) (sym fresh)
          (subst (λ flat. FitsAt items statement scan (suc old) tree 0 flat []) (sym c.variable.ensures)
          (fits-flat-bound items statement moves within scan old var tree shape entries h some)))),
    ),
  ),
)

pub reshape_form-form_of-requires : goal.reshape_form-form_of-requires
reshape_form-form_of-requires t c = (
  omega (arith, c.decreases),
  (
    c.requires.there,
    (
      c.requires.ready,
      (
          (let pools = c.args.checked.now.pools in
          let items = items_in pools in
          let statement = c.args.place.statement in
          let names = names_at items statement in
          let moves = c.operand_laws.ensures.moves (shapes_of names) in
          let within = c.operand_laws.ensures.within (shapes_of names) in
          let scan = c.args.place.scan in
          let old = used c.args.pool.now in
          let entries = c.args.entries.now in
          let tree = node_tree pools c.args.of in
          let h = c.requires.fits in
          let operand = c.requires.ready.nodes.shape in
          let test = sym c.same_shapes.ensures ∙ c.if-same_shapes.true in
          fits-same items statement moves within scan old tree (slice_index_or c.args.checked.now.shapes c.args.number []) entries
          ((bytes_eq-Decides (slice_index_or c.args.checked.now.shapes c.args.number []) (slice_index_or c.args.checked.now.shapes c.args.of [])).0 test ∙ operand) h)),
    ),
  ),
)

pub reshape_form-form_of-requires-then-is_scalar : goal.reshape_form-form_of-requires-then-is_scalar
reshape_form-form_of-requires-then-is_scalar t c = (
  omega (arith, c.decreases),
  (
    c.requires.there,
    (
      c.requires.ready,
      (
          (let pools = c.args.checked.now.pools in
          let items = items_in pools in
          let statement = c.args.place.statement in
          let names = names_at items statement in
          let moves = c.operand_laws.ensures.moves (shapes_of names) in
          let within = c.operand_laws.ensures.within (shapes_of names) in
          let scan = c.args.place.scan in
          let old = used c.args.pool.now in
          let entries = c.args.entries.now in
          let tree = node_tree pools c.args.of in
          let h = c.requires.fits in
          let operand = c.requires.ready.nodes.shape in
          let test = sym c.is_scalar.ensures ∙ c.if-is_scalar.true in
          subst (Fits items statement scan old tree) (sym c.listed-none.ensures)
          (fits-none items statement moves within scan old tree (slice_index_or c.args.checked.now.shapes c.args.number []) entries (no-items (slice_index_or c.args.checked.now.shapes c.args.of []) test ∙ operand) h))),
    ),
  ),
)

pub two_form-pair_form-requires : goal.two_form-pair_form-requires
two_form-pair_form-requires t c = (
  omega (arith, c.decreases),
  (
    c.requires.first,
    (
      c.requires.second,
      (
        c.requires.left_ready,
        (
          c.requires.right_ready,
          (
            (let pools = c.args.checked.now.pools in
                let items = items_in pools in
                let statement = c.args.place.statement in
                let names = names_at items statement in
                let moves = c.operand_laws.ensures.moves (shapes_of names) in
                let within = c.operand_laws.ensures.within (shapes_of names) in
                let scan = c.args.place.scan in
                let old = used c.args.pool.now in
                let entries = c.args.entries.now in
                let left = node_tree pools c.args.left in
                let right = node_tree pools c.args.right in
                subst (Fits items statement scan old left) (sym (c.own_in-first.ensures ∙ ap (λ s. own_index s entries) (c.requires.left_ready.nodes.shape)))
                (fits-two-left items statement moves within scan old c.args.op left right entries c.requires.fits)),
            (
              (let pools = c.args.checked.now.pools in
                  let items = items_in pools in
                  let statement = c.args.place.statement in
                  let names = names_at items statement in
                  let moves = c.operand_laws.ensures.moves (shapes_of names) in
                  let within = c.operand_laws.ensures.within (shapes_of names) in
                  let scan = c.args.place.scan in
                  let old = used c.args.pool.now in
                  let entries = c.args.entries.now in
                  let left = node_tree pools c.args.left in
                  let right = node_tree pools c.args.right in
                  subst (Fits items statement (scan_behind scan left) (old + cost items statement left) right) (sym (c.own_in-second.ensures ∙ ap (λ s. own_index s entries) (c.requires.right_ready.nodes.shape)))
                  (fits-two-right items statement moves within scan old c.args.op left right entries c.requires.fits)),
              (
                  (let pools = c.args.checked.now.pools in
                  let items = items_in pools in
                  let statement = c.args.place.statement in
                  let names = names_at items statement in
                  let prices = prices_at items statement in
                  let old = used c.args.pool.now in
                  let left = node_tree pools c.args.left in
                  let right = node_tree pools c.args.right in
                  let x = nodes prices left in
                  let y = nodes prices right in
                  room-both old x y c.requires.fits.terms)),
            ),
          ),
        ),
      ),
    ),
  ),
)

pub outer_form-pair_form-requires : goal.outer_form-pair_form-requires
outer_form-pair_form-requires t c = (
  omega (arith, c.decreases),
  (
    c.requires.first,
    (
      c.requires.second,
      (
        c.requires.left_ready,
        (
          c.requires.right_ready,
          (
            (let pools = c.args.checked.now.pools in
                let items = items_in pools in
                let statement = c.args.place.statement in
                let names = names_at items statement in
                let moves = c.operand_laws.ensures.moves (shapes_of names) in
                let within = c.operand_laws.ensures.within (shapes_of names) in
                let scan = c.args.place.scan in
                let old = used c.args.pool.now in
                let entries = c.args.entries.now in
                let left = node_tree pools c.args.left in
                let right = node_tree pools c.args.right in
                subst (Fits items statement scan old left) (sym (c.front-first.ensures ∙ ap (λ n. take n c.args.entries.now) c.axes_in-axes.ensures ∙ ap (λ (s : List ℕ). take (length s) entries) (c.requires.left_ready.nodes.shape)))
                (fits-outer-left items statement moves within scan old c.args.op left right entries c.requires.fits)),
            (
              (let pools = c.args.checked.now.pools in
                  let items = items_in pools in
                  let statement = c.args.place.statement in
                  let names = names_at items statement in
                  let moves = c.operand_laws.ensures.moves (shapes_of names) in
                  let within = c.operand_laws.ensures.within (shapes_of names) in
                  let scan = c.args.place.scan in
                  let old = used c.args.pool.now in
                  let entries = c.args.entries.now in
                  let left = node_tree pools c.args.left in
                  let right = node_tree pools c.args.right in
                  subst (Fits items statement (scan_behind scan left) (old + cost items statement left) right) (sym (c.behind-second.ensures ∙ ap (λ n. drop n c.args.entries.now) c.axes_in-axes.ensures ∙ ap (λ (s : List ℕ). drop (length s) entries) (c.requires.left_ready.nodes.shape)))
                  (fits-outer-right items statement moves within scan old c.args.op left right entries c.requires.fits)),
              (
                  (let pools = c.args.checked.now.pools in
                  let items = items_in pools in
                  let statement = c.args.place.statement in
                  let names = names_at items statement in
                  let prices = prices_at items statement in
                  let old = used c.args.pool.now in
                  let left = node_tree pools c.args.left in
                  let right = node_tree pools c.args.right in
                  let x = nodes prices left in
                  let y = nodes prices right in
                  room-both old x y c.requires.fits.terms)),
            ),
          ),
        ),
      ),
    ),
  ),
)

pub inner_form-pair_form-requires : goal.inner_form-pair_form-requires
inner_form-pair_form-requires t c = (
  omega (arith, c.decreases),
  (
    c.requires.first,
    (
      c.requires.second,
      (
        c.requires.left_ready,
        (
          c.requires.right_ready,
          (
            (let pools = c.args.checked.now.pools in
                let items = items_in pools in
                let statement = c.args.place.statement in
                let names = names_at items statement in
                let moves = c.operand_laws.ensures.moves (shapes_of names) in
                let within = c.operand_laws.ensures.within (shapes_of names) in
                let scan = c.args.place.scan in
                let old = used c.args.pool.now in
                let entries = c.args.entries.now in
                let left = node_tree pools c.args.left in
                let right = node_tree pools c.args.right in
                let shape = c.requires.left_ready.nodes.shape in
                let extent = c.last_extent_in-extent.ensures ∙ ap (λ s. slice_index s (length s - 1)) shape in
                let none = c.if-extent-eq0.false in
                let axes = length (shape_in names left) - 1 in
                let some : 0 < slice_index (shape_in names left) axes = subst (λ n. 0 < n) extent (not-none c.last_extent_in-extent.result none) in
                let var = c.fresh-var.result in
                let fresh = fresh-used c.args.pool.now c.fresh-var.new.self c.fresh-var.result c.fresh-var.ensures in
                let next = fits-inner-left items statement moves within scan old var c.args.operators.0 c.args.operators.1 left right entries some
                c.requires.fits in
                let path = c.with_last_in-first.ensures ∙ ap (λ (s : List ℕ). take (length s - 1) entries ++ c.variable.result ∷ []) shape
                ∙ ap (λ k. take axes entries ++ k ∷ []) c.variable.ensures in
                subst (λ count. Fits items statement scan count left c.with_last_in-first.result) (sym fresh)
                (subst (Fits items statement scan (suc old) left) (sym path) next)),
            (
              (let pools = c.args.checked.now.pools in
                  let items = items_in pools in
                  let statement = c.args.place.statement in
                  let names = names_at items statement in
                  let moves = c.operand_laws.ensures.moves (shapes_of names) in
                  let within = c.operand_laws.ensures.within (shapes_of names) in
                  let scan = c.args.place.scan in
                  let old = used c.args.pool.now in
                  let entries = c.args.entries.now in
                  let left = node_tree pools c.args.left in
                  let right = node_tree pools c.args.right in
                  let shape = c.requires.left_ready.nodes.shape in
                  let extent = c.last_extent_in-extent.ensures ∙ ap (λ s. slice_index s (length s - 1)) shape in
                  let none = c.if-extent-eq0.false in
                  let axes = length (shape_in names left) - 1 in
                  let some : 0 < slice_index (shape_in names left) axes = subst (λ n. 0 < n) extent (not-none c.last_extent_in-extent.result none) in
                  let var = c.fresh-var.result in
                  let fresh = fresh-used c.args.pool.now c.fresh-var.new.self c.fresh-var.result c.fresh-var.ensures in
                  let next = fits-inner-right items statement moves within scan old var c.args.operators.0 c.args.operators.1 left right entries some
                  c.requires.fits in
                  let path = c.with_first_in-second.ensures ∙ ap (λ (s : List ℕ). c.variable-2.result ∷ drop (length s - 1) entries) shape
                  ∙ ap (λ k. k ∷ drop axes entries) c.variable-2.ensures in
                  subst (λ count. Fits items statement (scan_behind scan left) (count + cost items statement left) right c.with_first_in-second.result) (sym fresh)
                  (subst (Fits items statement (scan_behind scan left) (suc old + cost items statement left) right) (sym path) next)),
              (
                  (let pools = c.args.checked.now.pools in
                  let items = items_in pools in
                  let statement = c.args.place.statement in
                  let names = names_at items statement in
                  let prices = prices_at items statement in
                  let old = used c.args.pool.now in
                  let left = node_tree pools c.args.left in
                  let right = node_tree pools c.args.right in
                  let x = nodes prices left in
                  let y = nodes prices right in
                  let fresh = fresh-used c.args.pool.now c.fresh-var.new.self c.fresh-var.result c.fresh-var.ensures in
                  room-inside old (used c.fresh-var.new.self) x y fresh c.requires.fits.terms)),
            ),
          ),
        ),
      ),
    ),
  ),
)

pub use_form-form_of-requires : goal.use_form-form_of-requires
use_form-form_of-requires t c = (
  (let before = subst (IsBefore c.args.checked.now.pools c.args.place.statement) c.in-Given.is c.meant_by.ensures.before in
      omega (arith, before.0, c.decreases)),
  (
    (let before = subst (IsBefore c.args.checked.now.pools c.args.place.statement) c.in-Given.is c.meant_by.ensures.before in before.1),
    (
      (let checking = c.args.checked.now in
          let tables = c.args.tables.now in
          let items = items_in checking.pools in
          let statement = c.args.place.statement in
          let names = names_at items statement in
          let h = c.requires.fits in
          let other = c.in-Given.statement in
          let node = c.in-Given.node in
          let given = subst (IsNameMeantSo checking tables statement c.args.name.now) c.in-Given.is c.meant_by.ensures.so in
          let means = subst (IsMeant checking tables (beside nameless (names_at items statement) c.args.name.now).form) c.in-Given.is
          (c.meant_by.ensures.meant c.requires.scope.meant) in
          record {
            nodes = means.0;
            scope = record { names_before = refl; meant = c.requires.scope.meant; known = c.requires.scope.known };
          }),
      (
          (let checking = c.args.checked.now in
          let tables = c.args.tables.now in
          let items = items_in checking.pools in
          let statement = c.args.place.statement in
          let names = names_at items statement in
          let h = c.requires.fits in
          let other = c.in-Given.statement in
          let node = c.in-Given.node in
          let given = subst (IsNameMeantSo checking tables statement c.args.name.now) c.in-Given.is c.meant_by.ensures.so in
          let means = subst (IsMeant checking tables (beside nameless (names_at items statement) c.args.name.now).form) c.in-Given.is
          (c.meant_by.ensures.meant c.requires.scope.meant) in
          let tree = node_tree checking.pools node in
          record {
            accepted = given.accepted;
            areas = subst (λ scan. scan + length (scans_in tree) ≤ greatest_area) (sym c.scan_at-scan.ensures) given.areas;
            terms = subst (λ count. used c.args.pool.now + 16 * count ≤ most_items) (sym given.counted) h.terms;
            room = h.room;
            known = h.known;
            roomy = subst (HasRoom h.room) (sym given.counted) h.roomy;
            within = subst (AreWithin h.room h.known c.args.entries.now) (sym given.shaped) h.within;
          })),
    ),
  ),
)

pub form_of-node_form-requires : goal.form_of-node_form-requires
form_of-node_form-requires t c =
    let pools = c.args.checked.now.pools in
    let items = items_in pools in
    let statement = c.args.place.statement in
    let names = names_at items statement in
    let scan = c.args.place.scan in
    let old = used c.args.pool.now in
    let entries = c.args.entries.now in (
      omega (arith, c.decreases),
      (
        c.node_of-node.ensures.operands,
        (
          c.node_of-node.ensures.lists,
          (
            c.node_of-node.ensures.tree,
            (
              c.requires.ready,
              (
                c.node_of-node.ensures.ready c.args.tables.now statement names c.requires.ready,
                (
                    subst (λ tree. Fits items statement scan old tree entries) c.node_of-node.ensures.tree c.requires.fits),
              ),
            ),
          ),
        ),
      ),
    )

pub form_of-returns-clause-grown : goal.form_of-returns-clause-grown
form_of-returns-clause-grown t c =
    let pools = c.args.checked.now.pools in
    let items = items_in pools in
    let statement = c.args.place.statement in
    let names = names_at items statement in
    subst (λ tree. IfOk c.node_form.result (λ number. used c.node_form.new.pool ≤ used c.args.pool.now + cost items statement tree))
    (sym c.node_of-node.ensures.tree) c.node_form.ensures.grown

pub node_form-reshape_form-requires : goal.node_form-reshape_form-requires
node_form-reshape_form-requires t c =
    let pools = c.args.checked.now.pools in
    let items = items_in pools in
    let statement = c.args.place.statement in
    let names = names_at items statement in
    let moves = c.operand_laws.ensures.moves (shapes_of names) in
    let within = c.operand_laws.ensures.within (shapes_of names) in
    let scan = c.args.place.scan in
    let old = used c.args.pool.now in
    let entries = c.args.entries.now in
    let tree = node_tree pools c.in-Reshape.of in
    let there = subst (λ (n : Node). AllByRecursion (λ operand. (operand < c.args.number) × (operand < length pools.nodes)) (operands n))
    c.in-Reshape.is c.requires.operands in
    let ready = subst (λ (n : Node). AreReady c.args.checked.now c.args.tables.now statement names (operands n)) c.in-Reshape.is
    c.requires.operands_ready in
    let fits = subst (λ (n : Node). Fits items statement scan old (expr_of pools.numbers (trees pools.numbers pools.nodes) n) entries) c.in-Reshape.is c.requires.fits in
    let shape = c.requires.ready.nodes.shape ∙ ap (shape_in names) (c.requires.tree ∙ ap (expr_of pools.numbers (trees pools.numbers pools.nodes)) c.in-Reshape.is) in (
      omega (arith, there.0.0, c.decreases),
      (
        c.requires.ready.nodes.there,
        (
          there.0.1,
          (
            ready.0,
            (
                subst (λ s. FitsIn items statement scan old tree s entries) (sym shape)
                (fits-reshape items statement moves within scan old (list_at pools.numbers c.in-Reshape.list) tree entries fits)),
          ),
        ),
      ),
    )

pub node_form-reshape_form-requires-in-Ravel : goal.node_form-reshape_form-requires-in-Ravel
node_form-reshape_form-requires-in-Ravel t c =
    let pools = c.args.checked.now.pools in
    let items = items_in pools in
    let statement = c.args.place.statement in
    let names = names_at items statement in
    let moves = c.operand_laws.ensures.moves (shapes_of names) in
    let within = c.operand_laws.ensures.within (shapes_of names) in
    let scan = c.args.place.scan in
    let old = used c.args.pool.now in
    let entries = c.args.entries.now in
    let tree = node_tree pools c.in-Ravel.of in
    let there = subst (λ (n : Node). AllByRecursion (λ operand. (operand < c.args.number) × (operand < length pools.nodes)) (operands n))
    c.in-Ravel.is c.requires.operands in
    let ready = subst (λ (n : Node). AreReady c.args.checked.now c.args.tables.now statement names (operands n)) c.in-Ravel.is
    c.requires.operands_ready in
    let fits = subst (λ (n : Node). Fits items statement scan old (expr_of pools.numbers (trees pools.numbers pools.nodes) n) entries) c.in-Ravel.is c.requires.fits in
    let shape = c.requires.ready.nodes.shape ∙ ap (shape_in names) (c.requires.tree ∙ ap (expr_of pools.numbers (trees pools.numbers pools.nodes)) c.in-Ravel.is) in (
      omega (arith, there.0.0, c.decreases),
      (
        c.requires.ready.nodes.there,
        (
          there.0.1,
          (
            ready.0,
            (
                subst (λ s. FitsIn items statement scan old tree s entries) (sym shape)
                (fits-ravel items statement moves within scan old tree entries fits)),
          ),
        ),
      ),
    )

pub use_form-load-requires : goal.use_form-load-requires
use_form-load-requires t c =
    let given = subst (IsNameMeantSo c.args.checked.now c.args.tables.now c.args.place.statement c.args.name.now) c.in-Stored.is c.meant_by.ensures.so in
    let terms = c.requires.fits.terms in
    omega (arith, given, terms)

pub use_form-returns-in-Stored-clause-grown : goal.use_form-returns-in-Stored-clause-grown
use_form-returns-in-Stored-clause-grown t c =
    let pools = c.args.checked.now.pools in
    let items = items_in pools in
    let statement = c.args.place.statement in
    let names = names_at items statement in
    let given = subst (IsNameMeantSo c.args.checked.now c.args.tables.now c.args.place.statement c.args.name.now) c.in-Stored.is c.meant_by.ensures.so in
    let old = used c.args.pool.now in
    let new = used c.load.new.self in
    let x = nodes (prices_at items statement) (Use c.args.name.now) in
    one-made c.load.result new old (old + 16 * x) (λ e. omega (arith, given, e)) c.load.ensures.one

pub transpose_form-returns-clause-grown : goal.transpose_form-returns-clause-grown
transpose_form-returns-clause-grown t c =
    let pools = c.args.checked.now.pools in
    let items = items_in pools in
    let statement = c.args.place.statement in
    let names = names_at items statement in
    let prices = prices_at items statement in
    let old = used c.args.pool.now in
    let tree = node_tree pools c.args.of in
    let x = nodes prices tree in
    let new = used c.form_of.new.pool in
    more-made c.form_of.result new (old + 16 * x) (old + 16 * (1 + x)) (made-same old new x) c.form_of.ensures.grown

pub transpose_form-form_of-requires : goal.transpose_form-form_of-requires
transpose_form-form_of-requires t c = (
  omega (arith, c.decreases),
  (
    c.requires.there,
    (
      c.requires.ready,
      (
          (let pools = c.args.checked.now.pools in
          let items = items_in pools in
          let statement = c.args.place.statement in
          let names = names_at items statement in
          let moves = c.operand_laws.ensures.moves (shapes_of names) in
          let within = c.operand_laws.ensures.within (shapes_of names) in
          let scan = c.args.place.scan in
          let old = used c.args.pool.now in
          let entries = c.args.entries.now in
          let tree = node_tree pools c.args.of in
          let next = fits-transpose items statement moves within scan old tree entries c.requires.fits in
          subst (Fits items statement scan old tree) (sym c.mirrored-moved.ensures) next)),
    ),
  ),
)

pub node_form-returns-in-Transpose-clause-builds : goal.node_form-returns-in-Transpose-clause-builds
node_form-returns-in-Transpose-clause-builds t c = rw c.in-Transpose.is (λ names scope ready. c.transpose_form.ensures.builds names ready.0)
