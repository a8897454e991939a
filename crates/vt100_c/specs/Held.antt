-- What a handle owns: nothing if it is null, otherwise a block on the C library's heap that contains an object. An object
-- holds a value: its kind and its screen.
use Rattle.std.specs.Prelude.{Option, Some, None, ℕ}
use Rattle.std.specs.Global.{Global}
use Rattle.std_alloc.specs.Box.Ownership.{box_owns}
use Rattle.std_heap.specs.contracts.GlobalAllocator.TheImpl.{ghosts}
use Rattle.vt100_c.specs.declared.object.Object.{Object}
use Rattle.vt100_c.specs.contracts.object.Object.{the_row}
use base.Fml.{Fml, feq}
use denote.RawPtr.{Ptr, null_ptr}
use mir.Syntax.{Ty}
use Rattle.vt100_c.specs.declared.object.Source.{Source}
use Rattle.vt100_c.specs.declared.object.Source.TheVariants.{Parser, Screen, Mirror, Capture, Charsets}
use Rattle.vt_mirror.specs.Mirror.{MirrorValue}
use Rattle.vt_screen.specs.Screen.{ScreenValue}

-- The heap of the C library, managed by `malloc` and `free`.
abbrev pub heap : Global
heap = record { memory = record { seal = tt } }

-- The permission to free the block of the given type at the given address of the heap.
abbrev pub may_free : Ty → Ptr → Fml
may_free = ghosts.dealloc_token heap

abbrev pub held_at : Ptr → Option Object → Fml
held_at at None = feq Ptr at null_ptr
held_at at (Some object) = box_owns may_free the_row at object

-- The screen of a parser or saved screen; other kinds of values have no screen.
abbrev pub screen_in : Source → Option ScreenValue
screen_in (Parser parser) = Some parser.screen
screen_in (Screen screen) = Some screen
screen_in (Mirror mirror) = None
screen_in (Capture written) = None
screen_in (Charsets charsets) = None

-- The mirror that a value contains, if any.
abbrev pub mirror_in : Source → Option MirrorValue
mirror_in (Parser parser) = None
mirror_in (Screen screen) = None
mirror_in (Mirror mirror) = Some mirror
mirror_in (Capture written) = None
mirror_in (Charsets charsets) = None

-- The number that represents a value's kind in the C interface.
abbrev pub kind_of : Source → ℕ
kind_of (Parser parser) = 1
kind_of (Screen screen) = 2
kind_of (Mirror mirror) = 3
kind_of (Capture written) = 4
kind_of (Charsets charsets) = 5

-- The number that represents the kind of a handle's value in the C interface; 0 if the handle is empty.
abbrev pub kind_held : Option Object → ℕ
kind_held None = 0
kind_held (Some object) = kind_of object.source
