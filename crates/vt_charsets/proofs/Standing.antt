-- A translator always stands for some reading.
use Rattle.std.proofs.Common.{◌≡◌, [], refl}
use Rattle.std.proofs.Math.Logic.{∥∥₁_map}
use Rattle.vt_scan.specs.Parameters.{table_of}
use Rattle.vt_charsets.specs.Charsets.{CharsetsValue, StandsFor}
use Rattle.vt_charsets.specs.Translation.{Reading}
use Rattle.vt_charsets.specs.declared.sets.CharsetState.{CharsetState}

-- With nothing collected, it stands for the reading with nothing collected.
pub stands_empty : (held : CharsetsValue) → held.table ≡ table_of [] → held.intermediates ≡ [] →
    ∥ ((r : Reading) × StandsFor held r) ∥₁
stands_empty held table intermediates =
    ∣ (
      record { kind = held.kind; collected = []; state = held.state },
      record { kind = refl; table = table; intermediates = intermediates; state = refl; fresh = λ _. refl },
    ) ∣₁

-- It stands for some reading after a change that takes each reading that it stood for to one that it stands for.
pub stands_on : (old new : CharsetsValue) (after : Reading → Reading) →
    ((r : Reading) → StandsFor old r → StandsFor new (after r)) →
    ∥ ((r : Reading) × StandsFor old r) ∥₁ → ∥ ((r : Reading) × StandsFor new r) ∥₁
stands_on old new after on stands =
    ∥∥₁_map {B = (r : Reading) × StandsFor new r} stands
    (λ (s : (r : Reading) × StandsFor old r). (after s.0, on s.0 s.1))

-- It stands for some reading whatever the state of the character sets is.
pub stands_with : (held : CharsetsValue) (state : CharsetState) →
    ∥ ((r : Reading) × StandsFor held r) ∥₁ → ∥ ((r : Reading) × StandsFor (record held { state = state }) r) ∥₁
stands_with held state =
    stands_on held (record held { state = state }) (λ r. record r { state = state })
    (λ r s. record { kind = s.kind; table = s.table; intermediates = s.intermediates; state = refl; fresh = s.fresh })
