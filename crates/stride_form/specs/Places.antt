-- Accesses that are reached. This project's own.
use Rattle.std.specs.Prelude.{◌≡◌, pos, unsigned_abs}
use Rattle.normal_form.specs.Assignments.{Assignment}
use Rattle.normal_form.specs.Meaning.{Point, Uses, Loads, Binds}
use Rattle.normal_form.specs.Stands.{IsFineBinding, IsPlace}
use Rattle.stride_form.specs.declared.access.Access.{Access}
use Rattle.stride_form.specs.Accesses.{place_of}

-- the place of an access is no negative number
abbrev pub IsAtPlace : Assignment → Access → Type 0
IsAtPlace m access = place_of m access ≡ pos (unsigned_abs (place_of m access))

-- a point of an operational form at which nothing is wrong
abbrev pub IsFineAccess : Assignment → Point Access → Type 0
IsFineAccess m (Uses entry) = IsPlace m entry
IsFineAccess m (Loads access) = IsAtPlace m access
IsFineAccess m (Binds bind) = IsFineBinding m bind
