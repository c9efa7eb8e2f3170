use Rattle.std.proofs.Common.{◌≡◌, drop}
use Rattle.rv_reader.specs.Forms.{form_among}
use Rattle.rv_reader.proofs.form.find_form.Given as goal

abbrev pub invariant-loop-form : goal.invariant-loop-form
invariant-loop-form l = form_among (drop l.form-index l.among) l.word ≡ form_among l.among l.word
