use Rattle.std.proofs.Common.{rules, length, string_bytes, sym, subst, ℕ, List}
use Rattle.vt_screen.specs.Gaps.{AppendsUpTo, ReplacesTracked, picture_cell}
use Rattle.vt_screen.proofs.ShortMoves.{underway_first, underway_moved, underway_read, underway_whole}
use Rattle.vt_screen.proofs.short_moves.with_short_moves.Goals as goal

pub loop-rest-init : goal.loop-rest-init
loop-rest-init c = (
  search rules,
  search rules,
  underway_first (length c.args.prev.now.rows) c.args.prev.now.width (picture_cell c.args.prev.now) c.args.start
      c.args.text.now (string_bytes c.in-Ok.short) c.in-Ok.ensures.bytes,
)

pub loop-rest-preserved-then-is_movement : goal.loop-rest-preserved-then-is_movement
loop-rest-preserved-then-is_movement c =
    let moved : AppendsUpTo (length c.args.prev.now.rows) c.args.prev.now.width (picture_cell c.args.prev.now)
    c.loop-rest.known c.in_ok-next.next c.loop-rest.rest.now c.in_ok-next.after.now (string_bytes c.write_str.new.self)
    (string_bytes c.add_movement.new.short) =
    subst (λ (xs : List ℕ). AppendsUpTo (length c.args.prev.now.rows) c.args.prev.now.width
    (picture_cell c.args.prev.now) c.loop-rest.known c.in_ok-next.next xs c.in_ok-next.after.now
    (string_bytes c.write_str.new.self) (string_bytes c.add_movement.new.short)) (sym c.in-Some.ensures.parts)
    c.in_ok-next.ensures.appends in (
      search rules,
      search rules,
      underway_moved (length c.args.prev.now.rows) c.args.prev.now.width (picture_cell c.args.prev.now) c.args.start
          c.loop-rest.known c.in_ok-next.next c.args.text.now c.loop-rest.uncopied.now c.loop-rest.rest.now
          c.in_ok-next.after.now (string_bytes c.loop-rest.short) c.in-Some-split_at_checked.copied.now
          (string_bytes c.write_str.new.self) (string_bytes c.add_movement.new.short) c.loop-rest.invariant.2
          c.in-Some-split_at_checked.ensures.front c.in_ok-write_str.ensures.ok moved,
    )

pub loop-rest-preserved : goal.loop-rest-preserved
loop-rest-preserved c =
    let read : ReplacesTracked (length c.args.prev.now.rows) c.args.prev.now.width (picture_cell c.args.prev.now)
    c.loop-rest.known c.known_after-known.result c.in-Some.head.now c.in-Some.head.now =
    subst (λ (h : ℕ). ReplacesTracked h c.args.prev.now.width (picture_cell c.args.prev.now) c.loop-rest.known
    c.known_after-known.result c.in-Some.head.now c.in-Some.head.now) c.size_of.ensures.rows
    (subst (λ (w : ℕ). ReplacesTracked c.size_of.result.rows w (picture_cell c.args.prev.now) c.loop-rest.known
    c.known_after-known.result c.in-Some.head.now c.in-Some.head.now) c.size_of.ensures.cols
    (c.known_after-known.ensures (picture_cell c.args.prev.now))) in (
      search rules,
      search rules,
      underway_read (length c.args.prev.now.rows) c.args.prev.now.width (picture_cell c.args.prev.now) c.args.start
          c.loop-rest.known c.known_after-known.result c.args.text.now c.loop-rest.uncopied.now c.loop-rest.rest.now
          c.in-Some.head.now c.in-Some.tail.now (string_bytes c.loop-rest.short) c.loop-rest.invariant.2
          c.in-Some.ensures.parts read,
    )

pub returns-clause-short : goal.returns-clause-short
returns-clause-short c =
    underway_whole (length c.args.prev.now.rows) c.args.prev.now.width (picture_cell c.args.prev.now) c.args.start
    c.loop-rest.known c.args.text.now c.loop-rest.uncopied.now c.loop-rest.rest.now (string_bytes c.loop-rest.short)
    (string_bytes c.write_str-2.new.self) c.loop-rest.invariant.2 (search rules) c.in_ok-write_str-2.ensures.ok
