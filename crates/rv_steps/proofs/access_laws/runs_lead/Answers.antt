use Rattle.std.specs.Prelude.{IsTrue}
use Rattle.rv_steps.proofs.AccessLemmas.{accesses-add, all-back, all-each, all-front, leads-later, leads-line, leads-more, leads-none}
use Rattle.rv_steps.proofs.access_laws.runs_lead.Goals as goal

pub returns : goal.returns
returns c = record {
  none = leads-none;
  first = leads-later;
  line = leads-line;
  steps = leads-more;
  add = accesses-add;
  front = λ lines base m n test. all-front lines base (λ a. IsTrue (test a)) m n;
  back = λ lines base m n test. all-back lines base (λ a. IsTrue (test a)) m n;
  each = λ lines base k n test. all-each lines base (λ a. IsTrue (test a)) k n;
}
