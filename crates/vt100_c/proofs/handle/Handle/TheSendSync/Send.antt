-- A handle may be sent to another thread, since the object may. Assumes nothing.
use Rattle.std.specs.Prelude.{Option, Some, None}
use mir.Raw.{raw}
use base.Shift.{Keyless}
use denote.Memory.{lone}
use denote.RawPtr.{Ptr}
use denote.Struct.Declared as declared
use denote.Struct.Struct.{exits_of}
use denote.Struct.Owning.{shape, fields, to}
use denote.Param.Send.{IsSend, AllSend, owning_send, recorded_send, struct_send, sendable}
use Rattle.std_alloc.proofs.SendSync.{quiet, lies}
use Rattle.std.proofs.Crossing as crossing
use Rattle.std.proofs.MapsCrossing as maps
use Rattle.vt_rows.proofs.capture.state.BasicFormattedCaptureState.TheSendSync as capture
use Rattle.vt_charsets.proofs.charsets.Charsets.TheSendSync as charsets
use Rattle.vt_screen.proofs.screen.Screen.TheSendSync as screen
use Rattle.vt100.proofs.parser.Parser.TheSendSync as parser
use Rattle.vt_mirror.proofs.Sharing.{mirror_send}
use Rattle.vt100_c.proofs.event_log.Events.TheSendSync as events
use Rattle.vt100_c.specs.contracts.object.Object as Object
use Rattle.vt100_c.specs.Held.{heap, held_at}
use Rattle.vt100_c.specs.contracts.handle.Handle.{the_row, the_type}

ruleset object_crosses = (
  sendable,
  crossing.crosses,
  maps.crosses,
  parser.the_send,
  screen.the_send,
  events.the_send,
  capture.the_send,
  charsets.the_send,
  mirror_send,
)

-- An object may be sent to another thread because its fields may; for a mirror, this is proved by hand.
object : IsSend Object.the_row
object =
    let all : AllSend (declared.fields Object.the_type) = (search object_crosses depth 20, (search object_crosses depth 20, tt)) in
    recorded_send _ _ _ (Object.the_type).to_one (struct_send (declared.shape Object.the_type) all)

held : (p : Ptr) (o : Option Object.the_row.Denot) → Keyless (held_at p o)
held p None = tt
held p (Some x) = (lies Object.the_row object p x, crossing.frees.frees heap (raw (lone Object.the_row.mir)) p)

pub send : IsSend the_row
send =
    let all : AllSend (fields the_type) = (search sendable, tt) in
    owning_send the_type all (λ d. held d.at d.held) (λ k. quiet (to the_type) (exits_of k (fields the_type)) ((struct_send (shape the_type) all).leaving k))
