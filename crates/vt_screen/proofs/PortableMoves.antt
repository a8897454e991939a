-- Portable output in sequence: movements, gaps and copied elements.
use Rattle.std.proofs.Common.{◌≡◌, ℕ, suc, zero, ◌||◌, not, Bool, List, [], ◌∷◌, ◌++◌, Option, Some, None, refl, sym}
use Rattle.std.proofs.Common.{ap, ap₂, subst, ◌∙◌, ◌+◌, ◌-◌, ◌<◌, ◌≤◌, ◌^◌, nat_lt, true, false, length, decimal}
use Rattle.std.proofs.Common.{replicate, arith, inl}
use Rattle.std.specs.Prelude.{IfSome, if◌then◌else◌}
use Rattle.std.specs.List.{AllByRecursion}
use Rattle.std.proofs.lemmas.Bool.Decides.{nat_tests}
use Rattle.std.proofs.lemmas.Str.{encode_ascii}
use Rattle.vt_cells.specs.Glyph.{columns_of}
use Rattle.vt_cells.specs.Op.{MoveTo, MoveRight, NextRow, counted, csi}
use Rattle.vt_cells.specs.declared.pos.Pos.{Pos}
use Rattle.vt_cells.proofs.Glyphs.{columns_of-ascii}
use Rattle.vt_scan.specs.Automaton.{Event, Step, start, run}
use Rattle.vt_scan.proofs.ParameterNumbers.{decimal_groups, decimal_is_parameter}
use Rattle.vt_grid.specs.Canvas.{Canvas}
use Rattle.vt_grid.specs.Page.{Page}
use Rattle.vt_grid.specs.Moves.{moved}
use Rattle.vt_grid.specs.Printing.{pushes}
use Rattle.vt_grid.specs.declared.grid.moves.CursorMove.TheVariants.{Return}
use Rattle.vt_redraw.specs.Certain.{is_certain, is_between, is_certain_narrow}
use Rattle.vt_redraw.specs.Doubts.{Doubts, IsPlaced, no_doubts, Wrap, NotPending, Pending, wrap_at}
use Rattle.vt_redraw.specs.Uses.{Use, Graphic, Cup, Cr, Cha, Cuf, Bs, Lf, Ed, El, Ech, Lines, Columns, Rep, Sgr}
use Rattle.vt_redraw.specs.Uses.{Dectcem, Decsc, Decrc, Other, IsPortableCharacter, IsPortableUse, doubts_after}
use Rattle.vt_redraw.specs.Uses.{may_print, wrap_after_feed}
use Rattle.vt_screen.specs.CallsOfRun.{screen_after_all, screen_in}
use Rattle.vt_screen.specs.Controls.{seen_of, steps_of}
use Rattle.vt_screen.specs.Portable.{PortableEvents, ReadsAgreed, doubts_after_all, doubts_after_output, use_of}
use Rattle.vt_screen.specs.Portable.{csi_use, control_use}
use Rattle.vt_screen.specs.Screen.{ScreenValue, canvas_of, with_page}
use Rattle.vt_screen.specs.ShortMoves.{IsNoWorse, IsAgreed, IsAsciiCharacter, IsAt, IsAtPos, IsBackWithin, IsElement}
use Rattle.vt_screen.specs.ShortMoves.{IsLastPart, IsPlainSized, IsPortableRoute, IsRoute, KeepsPortable, Settles}
use Rattle.vt_screen.specs.ShortMoves.{last_text, route_text, row_start_text}
use Rattle.vt_screen.specs.Reading.{terminal}
use Rattle.vt_screen.specs.Shown.{ReadsTo}
use Rattle.vt_screen.specs.Steps.{display_after}
use Rattle.vt_screen.specs.Steps as steps
use Rattle.vt_screen.specs.declared.short_moves.elements.Element.TheVariants as elements
use Rattle.vt_screen.specs.declared.short_moves.route.Last.{Last}
use Rattle.vt_screen.specs.declared.short_moves.route.Last.TheVariants as last
use Rattle.vt_screen.specs.declared.short_moves.route.Route.{Route}
use Rattle.vt_screen.proofs.PortableReads.{doubts_then, events_portable, events_split, run_then, ReadsPortably}
use Rattle.vt_screen.proofs.PortableReads.{character_portably, control_portably, csi_portably, op_portably}
use Rattle.vt_screen.proofs.PortableReads.{portably_nothing, portably_then}
use Rattle.vt_screen.proofs.ReadCharacters.{drawn_ascii, printed_moves}
use Rattle.vt_screen.proofs.CallsNone.{read_run}
use Rattle.vt_screen.proofs.ReadOperations.{character_read, kept, left_read}
use Rattle.vt_screen.proofs.ReadRoutes.{down, feed_read, feeds_read, return_read}

-- ==== Portable output in sequence: terminals that differ in less before an output agree on it, too, and differ in less
-- after it.

pub no_worse_itself : (doubts : Doubts) → IsNoWorse doubts doubts
no_worse_itself doubts = record { wrap = refl; place = refl; follows = λ e. e }

pub no_worse_then : (a b c : Doubts) → IsNoWorse a b → IsNoWorse b c → IsNoWorse a c
no_worse_then a b c one two = record {
  wrap = two.wrap ∙ one.wrap;
  place = two.place ∙ one.place;
  follows = λ e. two.follows (one.follows e);
}

-- Terminals that agree on the position differ in no more than those that agree on it and have read no character before.
pub placed_no_worse : (doubts : Doubts) → IsPlaced doubts → IsNoWorse no_doubts doubts
placed_no_worse doubts p = record { wrap = p.wrap; place = p.place; follows = λ e. absurd cc }

-- ---- one element

placed_kept : (was now : Doubts) → IsNoWorse was now → IsPlaced was → IsPlaced now
placed_kept was now w p = record { wrap = w.wrap ∙ p.wrap; place = w.place ∙ p.place }

character_kept : (columns : Option ℕ) (c : ℕ) (was now : Doubts) (page : Page) → IsNoWorse was now →
    IsPortableCharacter columns c was page → IsPortableCharacter columns c now page
character_kept None c was now page w p = p
character_kept (Some zero) c was now page w p = (w.follows p.0, p.1)
character_kept (Some (suc n)) c was now page w p = (ap₂ (may_print c) w.wrap w.place ∙ p.0, p.1)

use_kept : (element : Use) (was now : Doubts) (canvas : Canvas) → IsNoWorse was now → IsPortableUse element was canvas →
    IsPortableUse element now canvas
use_kept (Graphic c) was now canvas w p = character_kept (columns_of c) c was now canvas.page w p
use_kept Cup was now canvas w p = tt
use_kept Cr was now canvas w p = w.place ∙ p
use_kept Cha was now canvas w p = w.place ∙ p
use_kept Cuf was now canvas w p = placed_kept was now w p
use_kept Bs was now canvas w p = (placed_kept was now w p.0, p.1)
use_kept Lf was now canvas w p = (w.place ∙ p.0, p.1)
use_kept Ed was now canvas w p = (placed_kept was now w p.0, p.1)
use_kept El was now canvas w p = (placed_kept was now w p.0, p.1)
use_kept (Ech count) was now canvas w p = (placed_kept was now w p.0, p.1)
use_kept Lines was now canvas w p = (placed_kept was now w p.0, p.1)
use_kept Columns was now canvas w p = (placed_kept was now w p.0, p.1)
use_kept (Rep c count) was now canvas w p = record {
  place = placed_kept was now w p.place;
  follows = w.follows p.follows;
  character = p.character;
  is = p.is;
  columns = p.columns;
  room = p.room;
}
use_kept (Sgr intensities) was now canvas w p = p
use_kept Dectcem was now canvas w p = tt
use_kept Decsc was now canvas w p = w.place ∙ p
use_kept Decrc was now canvas w p = p
use_kept Other was now canvas w p = p

doubts_kept : (element : Use) (was now : Doubts) (canvas : Canvas) → IsNoWorse was now →
    IsNoWorse (doubts_after element was canvas) (doubts_after element now canvas)
doubts_kept (Graphic c) was now canvas w =
    record { wrap = refl; place = ap (λ (b : Bool). b || not (is_certain c)) w.place; follows = λ e. refl }
doubts_kept Cup was now canvas w = no_worse_itself no_doubts
doubts_kept Cr was now canvas w = no_worse_itself no_doubts
doubts_kept Cha was now canvas w = no_worse_itself no_doubts
doubts_kept Cuf was now canvas w = no_worse_itself no_doubts
doubts_kept Bs was now canvas w = no_worse_itself no_doubts
doubts_kept Lf was now canvas w = record { wrap = ap wrap_after_feed w.wrap; place = w.place; follows = λ e. e }
doubts_kept Ed was now canvas w = record { wrap = w.wrap; place = w.place; follows = λ e. e }
doubts_kept El was now canvas w = record { wrap = w.wrap; place = w.place; follows = λ e. e }
doubts_kept (Ech count) was now canvas w = record { wrap = w.wrap; place = w.place; follows = λ e. e }
doubts_kept Lines was now canvas w = record { wrap = w.wrap; place = w.place; follows = λ e. e }
doubts_kept Columns was now canvas w = record { wrap = w.wrap; place = w.place; follows = λ e. e }
doubts_kept (Rep c count) was now canvas w = record { wrap = refl; place = w.place; follows = λ e. e }
doubts_kept (Sgr intensities) was now canvas w = record { wrap = w.wrap; place = w.place; follows = λ e. e }
doubts_kept Dectcem was now canvas w = record { wrap = w.wrap; place = w.place; follows = λ e. e }
doubts_kept Decsc was now canvas w = record { wrap = w.wrap; place = w.place; follows = λ e. e }
doubts_kept Decrc was now canvas w = record { wrap = refl; place = w.place; follows = λ e. e }
doubts_kept Other was now canvas w = record { wrap = w.wrap; place = w.place; follows = λ e. e }

-- ---- several elements

pub events_kept : (events : List Event) (was now : Doubts) (screen : ScreenValue) → IsNoWorse was now →
    PortableEvents events was screen →
    PortableEvents events now screen
    × IsNoWorse (doubts_after_all events was screen) (doubts_after_all events now screen)
events_kept [] was now screen w p = (tt, w)
events_kept (event ∷ events) was now screen w p =
    let element = use_of event screen in
    let canvas = canvas_of screen in
    let rest = events_kept events (doubts_after element was canvas) (doubts_after element now canvas)
    (screen_after_all (steps_of event (seen_of screen)) screen) (doubts_kept element was now canvas w) p.1 in
    ((use_kept element was now canvas w p.0, rest.0), rest.1)

-- ---- two outputs, the first of which leaves the ground state and the given screen

pub output_split : (a b : List ℕ) (doubts : Doubts) (screen next : ScreenValue) → (run start a).state ≡ start →
    screen_in start screen a ≡ next → ReadsAgreed (a ++ b) doubts screen →
    ReadsAgreed a doubts screen × ReadsAgreed b (doubts_after_output a doubts screen) next
output_split a b doubts screen next ground becomes p =
    let parts = events_split (run start a).events (run start b).events doubts screen
    (subst (λ (s : Step). PortableEvents s.events doubts screen) (run_then a b ground) p) in (
      parts.0,
      subst (λ (s : ScreenValue). PortableEvents (run start b).events (doubts_after_output a doubts screen) s) becomes parts.1,
    )

pub output_then : (a b : List ℕ) (doubts : Doubts) (screen next : ScreenValue) → (run start a).state ≡ start →
    screen_in start screen a ≡ next → ReadsAgreed a doubts screen →
    ReadsAgreed b (doubts_after_output a doubts screen) next → ReadsAgreed (a ++ b) doubts screen
output_then a b doubts screen next ground becomes p q =
    subst (λ (s : Step). PortableEvents s.events doubts screen) (sym (run_then a b ground))
    (events_portable (run start a).events (run start b).events doubts screen p
    (subst (λ (s : ScreenValue). PortableEvents (run start b).events (doubts_after_output a doubts screen) s) (sym becomes) q))

pub output_after : (a b : List ℕ) (doubts : Doubts) (screen next : ScreenValue) → (run start a).state ≡ start →
    screen_in start screen a ≡ next →
    doubts_after_output (a ++ b) doubts screen ≡ doubts_after_output b (doubts_after_output a doubts screen) next
output_after a b doubts screen next ground becomes =
    ap (λ (s : Step). doubts_after_all s.events doubts screen) (run_then a b ground)
    ∙ (doubts_then (run start a).events (run start b).events doubts screen
    ∙ ap (λ (s : ScreenValue). doubts_after_output b (doubts_after_output a doubts screen) s) becomes)

-- ==== Movements, gaps and copied elements in portable output.

-- ---- output after which terminals agree on the position of the cursor

pub record IsSettling (text : List ℕ) (doubts : Doubts) (screen : ScreenValue) : Type 0 where
  pub left : Doubts
  pub reads : ReadsPortably text doubts screen left
  pub placed : IsPlaced left

settling_nothing : (doubts : Doubts) (screen : ScreenValue) → IsPlaced doubts → IsSettling [] doubts screen
settling_nothing doubts screen p = record { left = doubts; reads = portably_nothing doubts screen; placed = p }

pub becomes_next : (text : List ℕ) (left after : Doubts) (rest : List ℕ) (screen next : ScreenValue) → ReadsTo text screen next →
    ReadsPortably rest left next after → ReadsPortably rest left (screen_in start screen text) after
becomes_next text left after rest screen next reads p =
    subst (λ (s : ScreenValue). ReadsPortably rest left s after)
    (sym (read_run text (terminal start screen) (terminal start next) reads).steps.becomes) p

settling_then : (a b : List ℕ) (doubts : Doubts) (screen next : ScreenValue) → IsSettling a doubts screen →
    ReadsTo a screen next → ((left : Doubts) → IsPlaced left → IsSettling b left next) → IsSettling (a ++ b) doubts screen
settling_then a b doubts screen next first reads more =
    let second = more first.left first.placed in record {
      left = second.left;
      reads = portably_then a b doubts first.left second.left screen first.reads
          (becomes_next a first.left second.left b screen next reads second.reads);
      placed = second.placed;
    }

pub no_doubts_placed : IsPlaced no_doubts
no_doubts_placed = record { wrap = refl; place = refl }

-- ---- routes

feed_settles : (doubts : Doubts) (screen : ScreenValue) → IsPlaced doubts →
    screen.page.row + 1 < length screen.page.rows → IsSettling (0x0A ∷ []) doubts screen
unfolding control_use
feed_settles doubts screen p inside = record {
  left = doubts_after Lf doubts (canvas_of screen);
  reads = control_portably 0x0A Lf doubts screen (omega arith) (λ e. omega (arith, e)) refl (p.place, inside);
  placed = record { wrap = ap wrap_after_feed p.wrap; place = p.place };
}

feeds_settle : (n : ℕ) (doubts : Doubts) (screen : ScreenValue) → IsPlaced doubts →
    screen.page.bottom + 1 ≡ length screen.page.rows → screen.page.row + n < length screen.page.rows →
    IsSettling (replicate n 0x0A) doubts screen
feeds_settle zero doubts screen p whole inside = settling_nothing doubts screen p
feeds_settle (suc n) doubts screen p whole inside =
    settling_then (0x0A ∷ []) (replicate n 0x0A) doubts screen (down 1 screen)
    (feed_settles doubts screen p (omega arith)) (feed_read screen whole (omega arith))
    (λ left q. feeds_settle n left (down 1 screen) q whole (omega arith))

return_settles : (doubts : Doubts) (screen : ScreenValue) → IsPlaced doubts → IsSettling (0x0D ∷ []) doubts screen
unfolding control_use
return_settles doubts screen p = record {
  left = no_doubts;
  reads = control_portably 0x0D Cr doubts screen (omega arith) (λ e. omega (arith, e)) refl p.place;
  placed = no_doubts_placed;
}

back_settles : (doubts : Doubts) (screen : ScreenValue) → IsPlaced doubts → 0 < screen.page.column →
    IsSettling (0x08 ∷ []) doubts screen
unfolding control_use
back_settles doubts screen p some = record {
  left = no_doubts;
  reads = control_portably 0x08 Bs doubts screen (omega arith) (λ e. omega (arith, e)) refl (p, some);
  placed = no_doubts_placed;
}

backs_settle : (n : ℕ) (doubts : Doubts) (screen : ScreenValue) → IsPlaced doubts → n ≤ screen.page.column →
    IsSettling (replicate n 0x08) doubts screen
backs_settle zero doubts screen p within = settling_nothing doubts screen p
backs_settle (suc n) doubts screen p within =
    let next : ScreenValue = record screen { page = record screen.page { column = screen.page.column - 1 } } in
    settling_then (0x08 ∷ []) (replicate n 0x08) doubts screen next (back_settles doubts screen p (omega arith))
    (left_read screen) (λ left q. backs_settle n left next q (omega arith))

pub right_settles : (n : ℕ) (doubts : Doubts) (screen : ScreenValue) → IsPlaced doubts → 0 < n → n < 2 ^ 16 →
    IsSettling (counted n 0x43) doubts screen
right_settles zero doubts screen p some small = absurd (omega arith)
right_settles (suc n) doubts screen p some small = record {
  left = no_doubts;
  reads = op_portably (MoveRight (suc n)) doubts screen small p;
  placed = no_doubts_placed;
}

column_settles : (target : ℕ) (doubts : Doubts) (screen : ScreenValue) → IsPlaced doubts → target < 65535 →
    IsSettling (csi (decimal (target + 1)) 0x47) doubts screen
unfolding csi_use
column_settles target doubts screen p small = record {
  left = no_doubts;
  reads = csi_portably (decimal (target + 1)) 0x47 (((target + 1) ∷ []) ∷ []) Cha doubts screen
      (decimal_is_parameter (target + 1) (omega arith)) (omega arith, omega arith)
      (decimal_groups (target + 1) (omega arith)) refl refl p.place;
  placed = no_doubts_placed;
}

last_settles : (part : Last) (doubts : Doubts) (screen : ScreenValue) → IsPlaced doubts → IsLastPart part →
    IsBackWithin part screen.page.column → IsSettling (last_text part) doubts screen
last_settles last.Stay doubts screen p is within = settling_nothing doubts screen p
last_settles (last.Back n) doubts screen p is within = backs_settle n doubts screen p within
last_settles (last.Right n) doubts screen p is within =
    let small = is.1 in right_settles n doubts screen p is.0 (omega (arith, small))
last_settles (last.Column target) doubts screen p is within = column_settles target doubts screen p is

along_settles : (returns : Bool) (tabs : ℕ) (part : Last) (col : ℕ) (doubts : Doubts) (screen : ScreenValue) → tabs ≡ 0 →
    IsLastPart part → IsBackWithin part (if returns then 0 else col) → IsPlaced doubts → screen.page.column ≡ col →
    IsSettling ((if returns then 0x0D ∷ [] else []) ++ (replicate tabs 0x09 ++ last_text part)) doubts screen
along_settles true zero part col doubts screen none is within p at =
    settling_then (0x0D ∷ []) (last_text part) doubts screen (with_page (moved Return screen.page) screen)
    (return_settles doubts screen p) (return_read screen)
    (λ left q. last_settles part left (with_page (moved Return screen.page) screen) q is within)
along_settles false zero part col doubts screen none is within p at =
    last_settles part doubts screen p is (subst (IsBackWithin part) (sym at) within)
along_settles returns (suc n) part col doubts screen none is within p at = absurd (omega (arith, none))

route_settles : (rows cols : ℕ) (from to : Pos) (route : Route) → IsRoute cols route from to →
    IsPortableRoute route from.col → to.row < rows → (screen : ScreenValue) (doubts : Doubts) →
    IsPlainSized rows cols screen → IsAtPos from screen → IsPlaced doubts → IsSettling (route_text route) doubts screen
route_settles rows cols from to route is portable low screen doubts sized at p =
    settling_then (replicate route.feeds 0x0A)
    ((if route.returns then 0x0D ∷ [] else []) ++ (replicate route.tabs 0x09 ++ last_text route.last)) doubts screen
    (down route.feeds screen) (feeds_settle route.feeds doubts screen p whole inside)
    (feeds_read route.feeds screen whole inside)
    (λ left q. along_settles route.returns route.tabs route.last from.col left (down route.feeds screen) portable.tabs
    is.part portable.back q at.column)
  where
    whole : screen.page.bottom + 1 ≡ length screen.page.rows
    whole = sized.plain.page.whole.1

    inside : screen.page.row + route.feeds < length screen.page.rows
    inside =
        let a = is.row in
        let here = at.row in
        let tall = sized.height in omega (arith, a, here, low, tall)

-- ---- movements

pub agreed_at : (known : Option Pos) (from : Pos) (doubts : Doubts) → known ≡ Some from → IsAgreed known doubts → IsPlaced doubts
agreed_at known from doubts e agreed = subst (λ (k : Option Pos). IsAgreed k doubts) e agreed

-- A movement can be replaced by portable output that leads to the same position.
settling_keeps : (rows cols : ℕ) (known : Option Pos) (to : Pos) (head text : List ℕ) → Settles rows cols known head →
    ((screen : ScreenValue) (doubts : Doubts) → IsPlainSized rows cols screen → IsAt known screen → IsAgreed known doubts →
    IsSettling text doubts screen) → KeepsPortable rows cols known (Some to) head text
settling_keeps rows cols known to head text settles each screen doubts sized at agreed reads =
    let settling = each screen doubts sized at agreed in
    let settled = settles screen doubts sized at agreed in record {
      agrees = settling.reads.events;
      after = subst (λ (d : Doubts). IsNoWorse d (doubts_after_output text doubts screen)) (sym settled)
          (subst (IsNoWorse no_doubts) (sym settling.reads.after) (placed_no_worse settling.left settling.placed));
      place = subst IsPlaced (sym settled) no_doubts_placed;
    }

pub route_keeps : (rows cols : ℕ) (known : Option Pos) (from to : Pos) (route : Route) (head : List ℕ) →
    known ≡ Some from → Settles rows cols known head → IsRoute cols route from to → IsPortableRoute route from.col →
    to.row < rows → KeepsPortable rows cols known (Some to) head (route_text route)
route_keeps rows cols known from to route head e settles is portable low =
    settling_keeps rows cols known to head (route_text route) settles
    (λ screen doubts sized at agreed. route_settles rows cols from to route is portable low screen doubts sized
    (subst (λ (k : Option Pos). IsAt k screen) e at) (agreed_at known from doubts e agreed))

row_start_settles : (row : ℕ) (doubts : Doubts) (screen : ScreenValue) → row < 65535 →
    IsSettling (row_start_text row) doubts screen
unfolding csi_use
row_start_settles row doubts screen small = record {
  left = no_doubts;
  reads = csi_portably (decimal (row + 1)) 0x48 (((row + 1) ∷ []) ∷ []) Cup doubts screen
      (decimal_is_parameter (row + 1) (omega arith)) (omega arith, omega arith)
      (decimal_groups (row + 1) (omega arith)) refl refl tt;
  placed = no_doubts_placed;
}

pub row_start_keeps : (rows cols : ℕ) (known : Option Pos) (to : Pos) (head : List ℕ) → Settles rows cols known head →
    to.row < 65535 → KeepsPortable rows cols known (Some to) head (row_start_text to.row)
row_start_keeps rows cols known to head settles small =
    settling_keeps rows cols known to head (row_start_text to.row) settles
    (λ screen doubts sized at agreed. row_start_settles to.row doubts screen small)

-- A movement that is copied.
pub same_keeps : (rows cols : ℕ) (known : Option Pos) (to : Pos) (head : List ℕ) → Settles rows cols known head →
    KeepsPortable rows cols known (Some to) head head
same_keeps rows cols known to head settles screen doubts sized at agreed reads = record {
  agrees = reads;
  after = no_worse_itself (doubts_after_output head doubts screen);
  place = subst IsPlaced (sym (settles screen doubts sized at agreed)) no_doubts_placed;
}

pub place_settles : (rows cols : ℕ) (known : Option Pos) (pos : Pos) (head : List ℕ) → IsElement (elements.Place pos) head →
    Settles rows cols known head
place_settles rows cols known pos head (low, narrow, e) =
    subst (Settles rows cols known) (sym e)
    (λ screen doubts sized at agreed. (op_portably (MoveTo pos.row pos.col) doubts screen (low, narrow) tt).after)

pub right_target_settles : (rows cols n : ℕ) (known : Option Pos) (from : Pos) (result : Option Pos) (head : List ℕ) →
    known ≡ Some from → IsElement (elements.Right n) head → IfSome result (λ to. Settles rows cols known head)
right_target_settles rows cols n known from None head e is = tt
right_target_settles rows cols zero known from (Some to) head e is = absurd (let some = is.0 in omega (arith, some))
right_target_settles rows cols (suc n) known from (Some to) head e (some, small, spelled) =
    subst (Settles rows cols known) (sym spelled)
    (λ screen doubts sized at agreed.
    (op_portably (MoveRight (suc n)) doubts screen (omega (arith, small)) (agreed_at known from doubts e agreed)).after)

pub next_row_settles : (rows cols : ℕ) (known : Option Pos) (from : Pos) (result : Option Pos) (head : List ℕ) →
    known ≡ Some from → IsElement elements.NextRow head → IfSome result (λ to. (to.row ≡ from.row + 1) × (to.row < rows)) →
    IfSome result (λ to. Settles rows cols known head)
next_row_settles rows cols known from None head e spelled row = tt
next_row_settles rows cols known from (Some to) head e spelled (below, low) =
    subst (Settles rows cols known) (sym spelled)
    (λ screen doubts sized at agreed.
    let p = agreed_at known from doubts e agreed in
    let here = subst (λ (k : Option Pos). IsAt k screen) e at in
    let r = here.row in
    let tall = sized.height in
    (op_portably NextRow doubts screen tt (p.place, (refl, omega (arith, r, tall, below, low)))).after)

-- ---- characters

certain_ascii : (c : ℕ) → IsAsciiCharacter c → is_certain c ≡ true
unfolding is_certain_narrow
certain_ascii c (low, high) =
    let t : is_between 0x20 0x7E c ≡ true = grind (arith, nat_tests) in rw t refl

pub wrap_within : (column width : ℕ) → column < width → wrap_at column width ≡ NotPending
wrap_within column width inside =
    let t : nat_lt column width ≡ true = grind (arith, nat_tests) in
    ap (λ (b : Bool). if b then NotPending else Pending) t

-- A character that has room in the cursor's row, where no wrap is pending.
pub room_portable : (columns : Option ℕ) (c n : ℕ) (doubts : Doubts) (screen : ScreenValue) → columns ≡ Some (suc n) →
    IsPlaced doubts → screen.page.column + suc n ≤ screen.page.width → IsPortableCharacter columns c doubts screen.page
room_portable columns c n doubts screen e p room =
    subst (λ (o : Option ℕ). IsPortableCharacter o c doubts screen.page) (sym e)
    (ap (λ (w : Wrap). may_print c w doubts.is_shifted) p.wrap ∙ ap not p.place, inl room)

-- A certain character was printed in the cursor's row.
pub record IsPrintedOn (column width : ℕ) (left : Doubts) : Type 0 where
  pub wrap : left.wrap ≡ wrap_at column width
  pub place : left.is_shifted ≡ false
  pub follows : left.is_after_character ≡ true

pub printed_on : (c n : ℕ) (doubts : Doubts) (screen : ScreenValue) → is_certain c ≡ true → columns_of c ≡ Some (suc n) →
    suc n ≤ 2 → IsPlaced doubts → screen.page.column + suc n ≤ screen.page.width →
    IsPrintedOn (screen.page.column + suc n) screen.page.width (doubts_after (Graphic c) doubts (canvas_of screen))
printed_on c n doubts screen certain e few p room =
    let (unpushed, moved) = printed_moves c n screen e few room in record {
      wrap = ap (λ (k : ℕ). wrap_at k screen.page.width) moved.column;
      place = ap (λ (b : Bool). b || not (is_certain c)) p.place ∙ ap not certain;
      follows = refl;
    }

-- The output is a text of ASCII characters that has room in the cursor's row, or nothing.
pub record IsWritten (text : List ℕ) (doubts : Doubts) (screen : ScreenValue) : Type 0 where
  pub left : Doubts
  pub reads : ReadsPortably text doubts screen left
  pub printed : IsPrintedOn (screen.page.column + length text) screen.page.width left

letter_portably : (c : ℕ) (doubts : Doubts) (screen : ScreenValue) → IsAsciiCharacter c → IsPlaced doubts →
    screen.page.column + 1 ≤ screen.page.width →
    ReadsPortably (c ∷ []) doubts screen (doubts_after (Graphic c) doubts (canvas_of screen))
letter_portably c doubts screen is p room =
    let high = is.1 in
    let one = columns_of-ascii c is.0 is.1 in
    subst (λ (t : List ℕ). ReadsPortably t doubts screen (doubts_after (Graphic c) doubts (canvas_of screen)))
    (encode_ascii c (omega arith))
    (character_portably c doubts screen (drawn_ascii c is) (room_portable (columns_of c) c 0 doubts screen one p room))

-- At least one ASCII character, with room in the cursor's row.
pub letters_written : (c : ℕ) (cs : List ℕ) (doubts : Doubts) (screen : ScreenValue) → AllByRecursion IsAsciiCharacter (c ∷ cs) →
    IsPlaced doubts → screen.page.column + length (c ∷ cs) ≤ screen.page.width → IsWritten (c ∷ cs) doubts screen
letters_written c [] doubts screen is p room =
    let one = columns_of-ascii c is.0.0 is.0.1 in record {
      left = doubts_after (Graphic c) doubts (canvas_of screen);
      reads = letter_portably c doubts screen is.0 p room;
      printed = printed_on c 0 doubts screen (certain_ascii c is.0) one (omega arith) p room;
    }
letters_written c (d ∷ cs) doubts screen is p room =
    let one = columns_of-ascii c is.0.0 is.0.1 in
    let high = is.0.1 in
    let later = doubts_after (Graphic c) doubts (canvas_of screen) in
    let next = display_after (steps.Print c) screen in
    let (unpushed, moved) = printed_moves c 0 screen one (omega arith) (omega arith) in
    let reads : ReadsTo (c ∷ []) screen next =
    subst (λ (bytes : List ℕ). ReadsTo bytes screen next) (encode_ascii c (omega arith))
    (character_read c screen next (drawn_ascii c is.0) (kept (pushes c screen.page) next unpushed)) in
    let first = printed_on c 0 doubts screen (certain_ascii c is.0) one (omega arith) p (omega arith) in
    let column = moved.column in
    let width = moved.width in
    let rest = letters_written d cs later next is.1
    (record { wrap = first.wrap ∙ wrap_within (screen.page.column + 1) screen.page.width (omega arith); place = first.place })
    (omega (arith, column, width)) in record {
      left = rest.left;
      reads = portably_then (c ∷ []) (d ∷ cs) doubts later rest.left screen
          (letter_portably c doubts screen is.0 p (omega arith))
          (becomes_next (c ∷ []) later rest.left (d ∷ cs) screen next reads rest.reads);
      printed = record {
        wrap = rest.printed.wrap
            ∙ (ap (λ (w : ℕ). wrap_at (next.page.column + length (d ∷ cs)) w) width
            ∙ ap (λ (k : ℕ). wrap_at k screen.page.width)
            (let e : next.page.column + length (d ∷ cs) ≡ screen.page.column + length (c ∷ (d ∷ cs)) = omega (arith, column) in e));
        place = rest.printed.place;
        follows = rest.printed.follows;
      };
    }
