-- What a shelf keeps count of. This project's own.
use Rattle.std.specs.Prelude.{ℕ, List, [], refl}
use Rattle.std.specs.Coded.{Coded, code_by, coded×, coded_ℕ, coded_list}

-- what a shelf keeps count of: its failed calls, the name of the last of them, and the bytes that it gave
pub record Counts : Type 0 where
  pub faults : ℕ
  pub failed_name : List ℕ
  pub given : ℕ

-- counts are stored as the triple of their fields
abbrev pub counts_code : Coded Counts
counts_code = code_by (ℕ × (List ℕ × ℕ)) (coded× coded_ℕ (coded× (coded_list coded_ℕ) coded_ℕ))
    (λ c. (c.faults, (c.failed_name, c.given))) (λ p. record { faults = p.0; failed_name = p.1.0; given = p.1.1 }) (λ _. refl)

-- the counts that a shelf begins with
abbrev pub no_counts : Counts
no_counts = record { faults = 0; failed_name = []; given = 0 }
