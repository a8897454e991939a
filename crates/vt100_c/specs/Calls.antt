-- The effects of calls on the objects that handles hold.
use Rattle.std.specs.Prelude.{◌≡◌, ◌==◌, ◌&&◌, ℕ, Bool, true, false, [], Option, Some, None, not, string_bytes}
use Rattle.vt100_c.specs.Status.{ok, out_of_memory, no_object, in_use}
use Rattle.vt100_c.specs.declared.object.Object.{Object}
use Rattle.vt100_c.specs.declared.object.Source.{Source}

-- The statement `Yes` if the test is true, otherwise the statement `No`.
abbrev pub Either : Bool → Type 0 → Type 0 → Type 0
Either true Yes No = Yes
Either false Yes No = No

-- Whether a screen can have the given numbers of rows and columns.
abbrev pub is_size : (rows cols : ℕ) → Bool
is_size rows cols = not (rows == 0) && not (cols == 0)

-- A call has the effect `Does` on the value that a handle holds, and the text stored in the handle is unchanged. For an
-- empty handle, the status is `no_object` and the handle stays empty.
abbrev pub OnSource : (Source → ℕ → Source → Type 0) → Option Object → ℕ → Option Object → Type 0
OnSource Does None status new = (status ≡ no_object) × (new ≡ None)
OnSource Does (Some old) status (Some new) = Does old.source status new.source × (new.text ≡ old.text)
OnSource Does (Some old) status None = ⊥

-- An empty handle receives an object whose value satisfies `Is` and whose text is empty (status `ok`), or an allocation
-- fails and the handle stays empty (status `out_of_memory`).
abbrev pub Fills : (Source → Type 0) → ℕ → Option Object → Type 0
Fills Is status (Some new) = (status ≡ ok) × Is new.source × (string_bytes new.text ≡ [])
Fills Is status None = status ≡ out_of_memory

-- The call fails with the status `reason`, and the value is unchanged.
abbrev pub Refuses : (reason : ℕ) → Source → ℕ → Source → Type 0
Refuses reason old status new = (status ≡ reason) × (new ≡ old)

-- A call has the effect `Does` on the object that a handle holds. For an empty handle, the status is `no_object` and
-- the handle stays empty.
abbrev pub OnObject : (Object → ℕ → Object → Type 0) → Option Object → ℕ → Option Object → Type 0
OnObject Does None status new = (status ≡ no_object) × (new ≡ None)
OnObject Does (Some old) status (Some new) = Does old status new
OnObject Does (Some old) status None = ⊥

-- A value that satisfies `Is` is created in an empty handle, unless an allocation fails. A handle that already holds an
-- object is unchanged, and the status is `in_use`.
abbrev pub MakesOne : (Source → Type 0) → Option Object → ℕ → Option Object → Type 0
MakesOne Is (Some old) status new = (status ≡ in_use) × (new ≡ Some old)
MakesOne Is None status new = Fills Is status new
