use Rattle.std.proofs.Common.{length, sym, ap, ◌∙◌, arith}
use Rattle.std.specs.Prelude.{map}
use Rattle.std.specs.Str.Lines.{lines}
use Rattle.std.proofs.lemmas.List.{length-map}
use Rattle.rv_reader.specs.Refusals.{settled}
use Rattle.rv_reader.specs.Views.{drafted}
use Rattle.rv_reader.proofs.WholeLemmas.{parts_are, same_count, targets_left}
use Rattle.rv_reader.proofs.asm.find_parts.Goals as goal

pub settle-requires-clause-places : goal.settle-requires-clause-places
settle-requires-clause-places c =
    let body = c.in_ok-body.body in
    same_count c.in_ok-rows.rows.place (lines c.in_ok-rows.rows.rest.now) body.labels (map drafted body.drafts.items) body.places.items c.in_ok-body.ensures.read ∙ length-map body.drafts.items drafted

pub returns-clause-fine : goal.returns-clause-fine
returns-clause-fine c =
    let front = c.in_ok-front.front in
    let rows = c.in_ok-rows.rows in
    let body = c.in_ok-body.body in
    targets_left (lines c.args.text.now) (lines front.rest.now) front.header.spill rows.place rows.areas.items (lines rows.rest.now) body.labels (map drafted body.drafts.items) body.places.items
    c.in_ok-front.ensures.fine c.in_ok-front.ensures.spill c.in_ok-front.ensures.rest c.in_ok-rows.ensures.read c.in_ok-body.ensures.read
    ∙ c.in_ok-lines.ensures.fine

pub returns-clause-parts : goal.returns-clause-parts
returns-clause-parts c =
    let front = c.in_ok-front.front in
    let rows = c.in_ok-rows.rows in
    let body = c.in_ok-body.body in
    parts_are (lines c.args.text.now) (lines front.rest.now) front.header rows.place rows.areas.items (lines rows.rest.now) body.labels (map drafted body.drafts.items) c.in_ok-lines.lines.items body.places.items
    c.in_ok-front.ensures.fine c.in_ok-front.ensures.steps c.in_ok-front.ensures.spill c.in_ok-front.ensures.rest c.in_ok-rows.ensures.read c.in_ok-body.ensures.read c.in_ok-lines.ensures.lines

pub returns-clause-lines : goal.returns-clause-lines
returns-clause-lines c =
    let body = c.in_ok-body.body in
    let long = ap length c.in_ok-lines.ensures.lines ∙ length-map (map drafted body.drafts.items) (settled body.labels) ∙ length-map body.drafts.items drafted in
    let few = c.in_ok-body.ensures.count in
    let rows = c.in_ok-rows.ensures.count in
    let shorter = c.in_ok-front.ensures.shorter in
    omega (arith, long, few, rows, shorter)

pub returns-clause-places : goal.returns-clause-places
returns-clause-places c =
    let body = c.in_ok-body.body in
    let long = ap length c.in_ok-lines.ensures.lines ∙ length-map (map drafted body.drafts.items) (settled body.labels) in
    same_count c.in_ok-rows.rows.place (lines c.in_ok-rows.rows.rest.now) body.labels (map drafted body.drafts.items) body.places.items c.in_ok-body.ensures.read ∙ sym long
