-- The steps of a sequence, one by one, by the tests that the code makes.
use Rattle.std.proofs.Common.{◌≡◌, ℕ, suc, ◌+◌, ◌-◌, ◌<◌, Bool, true, false, List, [], ◌∷◌, ◌++◌, replicate, refl}
use Rattle.std.proofs.Common.{subst, ap, inl, inr, arith, ◌≢◌, ◌≤◌, ◌==◌, ◌&&◌, ◌||◌, nat_le, length, codes, Bor, map}
use Rattle.std.proofs.Common.{drop, get_or, sym, ◌∙◌, Option, None, Some, rules}
use Rattle.std.proofs.lemmas.Bool.Decides.{nat_tests}
use Rattle.std.specs.List.{FoldsTo}
use Rattle.std.specs.Prelude.{Ok}
use Rattle.std.proofs.lemmas.Bool.{false≢true}
use Rattle.std.specs.Str.{bytes_eq}
use Rattle.std.proofs.lemmas.List.{append-nil, drop_more, length-map}
use Rattle.vt_rows.proofs.RowTexts.{folds_then}
use Rattle.vt_grid.specs.declared.grid.moves.CursorMove.TheVariants.{To}
use Rattle.vt_grid.specs.declared.page_step.PageStep.{PageStep}
use Rattle.vt_grid.specs.declared.page_step.PageStep.TheVariants.{Move}
use Rattle.vt_screen.specs.Calls.{CallValue, Resize, SetWindowIconName, SetWindowTitle, UnhandledChar, UnhandledControl}
use Rattle.vt_screen.specs.Calls.{UnhandledEscape, UnhandledOsc}
use Rattle.vt_screen.specs.Screen.{ScreenValue}
use Rattle.vt_screen.specs.Run.{CallRelation, State, Takes, Refuses, StopsIn, state}
use Rattle.vt_screen.specs.Controls.{alternate_step, fresh_alternate_step, character_steps, control_steps, escape_steps}
use Rattle.vt_screen.specs.Controls.{intermediate_at, mode_steps, named_steps, number_at, osc_steps, size_or, seen_of}
use Rattle.vt_screen.specs.Controls.{window_steps, mode_step, reading_steps, sgr_from, counted_step, csi_steps}
use Rattle.vt_screen.specs.Controls.{intermediate_steps, number_or, Seen, one_or, other_steps, unmarked_steps}
use Rattle.vt_screen.specs.Controls.{scrolling_steps, sgr_steps}
use Rattle.vt_screen.specs.Steps.{Step, Print, LineFeed, ScrollUp, OnPage, SaveCursor, RestoreCursor, EnterAlternate}
use Rattle.vt_screen.specs.Steps.{EnterFresh, LeaveAlternate, LeaveRestoring, Reset, EraseScrollback, Render}
use Rattle.vt_screen.specs.Steps.{HideCursor, SetMode, CallBack, Grows, display_after}
use Rattle.vt_screen.specs.Sgr.{group_read}
use Rattle.vt_screen.specs.declared.sgr.Wanted.{Wanted}
use Rattle.vt_screen.specs.declared.sgr.GroupRead.{GroupRead}
use Rattle.vt_screen.specs.declared.mode_step.ModeStep.{ModeStep}
use Rattle.vt100.specs.Internals.{Does, DoesOrStops, Stops, is_own}
use Rattle.vt100.proofs.Running.{stops_first, stops_then}

-- ==== Taking one step, and invoking two callbacks.

pub taken : {S : Type 0} (does : CallRelation S) (x : Step) (s t : S) (d e : ScreenValue) →
    Takes does (state s d) x (state t e) → Does does s d (x ∷ []) t e
taken does x s t d e h = (state t e, h, refl)

pub refused : {S : Type 0} (does : CallRelation S) (x : Step) (s t : S) (d e : ScreenValue) →
    Refuses (state s d) x (state t e) → Stops does s d (x ∷ []) t e
refused does x s t d e h = inl h

pub called : {S : Type 0} (does : CallRelation S) (call : CallValue) (s t : S) (d e : ScreenValue) →
    does call s d t e → Does does s d (CallBack call ∷ []) t e
called does call s t d e h = (state t e, h, refl)

pub called_twice : {S : Type 0} (does : CallRelation S) (one two : CallValue) (s t u : S) (d e f : ScreenValue) →
    does one s d t e → does two t e u f → Does does s d (CallBack one ∷ CallBack two ∷ []) u f
called_twice does one two s t u d e f h k = (state t e, h, (state u f, k, refl))

takes_own : {S : Type 0} (does : CallRelation S) (x : Step) (s : S) (d e : ScreenValue) →
    is_own x ≡ true → e ≡ display_after x d → Takes does (state s d) x (state s e)
takes_own does (Print c) s d e own h = absurd (false≢true own)
takes_own does (OnPage x) s d e own h = ap (state s) h
takes_own does LineFeed s d e own h = absurd (false≢true own)
takes_own does (ScrollUp count) s d e own h = absurd (false≢true own)
takes_own does (Render setting) s d e own h = ap (state s) h
takes_own does (HideCursor hidden) s d e own h = ap (state s) h
takes_own does (SetMode x) s d e own h = ap (state s) h
takes_own does SaveCursor s d e own h = ap (state s) h
takes_own does RestoreCursor s d e own h = ap (state s) h
takes_own does EnterAlternate s d e own h = absurd (false≢true own)
takes_own does EnterFresh s d e own h = absurd (false≢true own)
takes_own does LeaveAlternate s d e own h = ap (state s) h
takes_own does LeaveRestoring s d e own h = ap (state s) h
takes_own does Reset s d e own h = ap (state s) h
takes_own does EraseScrollback s d e own h = absurd (false≢true own)
takes_own does (CallBack call) s d e own h = absurd (false≢true own)

pub stepping : {S : Type 0} (does : CallRelation S) (x : Step) (s : S) (d e : ScreenValue) →
    is_own x ≡ true → e ≡ display_after x d → Does does s d (x ∷ []) s e
stepping does x s d e own h = (state s e, takes_own does x s d e own h, refl)

-- A call that took all steps returns Ok.
pub all_done : {S : Type 0} (does : CallRelation S) (s t : S) (d e : ScreenValue) (steps : List Step) →
    Does does s d steps t e → DoesOrStops does s d steps t e (Ok tt)
all_done does s t d e steps h = record { done = h; stopped = λ r. absurd (false≢true r); memory = tt }

-- ---- switching pages, or its allocation failing

alone_refused : {S : Type 0} (does : CallRelation S) (x : Step) (s : S) (d e : ScreenValue) →
    Grows x d → e ≡ d → Stops does s d (x ∷ []) s e
alone_refused does x s d e grows same = inl (grows, ap (state s) same)

takes_alternate : {S : Type 0} (does : CallRelation S) (on : Bool) (s : S) (d e : ScreenValue) →
    e ≡ display_after (alternate_step on) d → Takes does (state s d) (alternate_step on) (state s e)
takes_alternate does true s d e h = ap (state s) h
takes_alternate does false s d e h = ap (state s) h

takes_fresh : {S : Type 0} (does : CallRelation S) (on : Bool) (s : S) (d e : ScreenValue) →
    e ≡ display_after (fresh_alternate_step on) d → Takes does (state s d) (fresh_alternate_step on) (state s e)
takes_fresh does true s d e h = ap (state s) h
takes_fresh does false s d e h = ap (state s) h

pub alternating : {S : Type 0} (does : CallRelation S) (on : Bool) (s : S) (d e : ScreenValue) →
    e ≡ display_after (alternate_step on) d → Does does s d (alternate_step on ∷ []) s e
alternating does on s d e h = (state s e, takes_alternate does on s d e h, refl)

pub alternating_stops : {S : Type 0} (does : CallRelation S) (on : Bool) (s : S) (d e : ScreenValue) →
    Grows (alternate_step on) d → e ≡ d → Stops does s d (alternate_step on ∷ []) s e
alternating_stops does on s d e grows same = alone_refused does (alternate_step on) s d e grows same

pub freshening : {S : Type 0} (does : CallRelation S) (on : Bool) (s : S) (d e : ScreenValue) →
    e ≡ display_after (fresh_alternate_step on) d → Does does s d (fresh_alternate_step on ∷ []) s e
freshening does on s d e h = (state s e, takes_fresh does on s d e h, refl)

pub freshening_stops : {S : Type 0} (does : CallRelation S) (on : Bool) (s : S) (d e : ScreenValue) →
    Grows (fresh_alternate_step on) d → e ≡ d → Stops does s d (fresh_alternate_step on ∷ []) s e
freshening_stops does on s d e grows same = alone_refused does (fresh_alternate_step on) s d e grows same

-- ---- loops: the steps that are left

-- Taking the steps `rest` completes taking `all`.
abbrev pub Rest : {S : Type 0} → CallRelation S → S → ScreenValue → List Step → S → ScreenValue → List Step → Type 0
Rest {S} does s d all t e rest =
    (u : State S) → FoldsTo (Takes does) (state t e) rest u → FoldsTo (Takes does) (state s d) all u

pub rest_all : {S : Type 0} (does : CallRelation S) (s : S) (d : ScreenValue) (all : List Step) →
    Rest does s d all s d all
rest_all does s d all = λ u h. h

pub rest_on : {S : Type 0} (does : CallRelation S) (s t u : S) (d e f : ScreenValue) (all one rest : List Step) →
    Rest does s d all t e (one ++ rest) → Does does t e one u f → Rest does s d all u f rest
rest_on does s t u d e f all one rest r h = λ v k. r v (folds_then (Takes does) one rest (state t e) (state u f) v h k)

pub rest_none : {S : Type 0} (does : CallRelation S) (s t : S) (d e : ScreenValue) (all : List Step) →
    Rest does s d all t e [] → Does does s d all t e
rest_none does s t d e all r = r (state t e) refl

-- ---- loops that may stop

-- Taking the steps `rest` completes taking `all`, and stopping within `rest` is stopping within `all`.
abbrev pub Left : {S : Type 0} → CallRelation S → S → ScreenValue → List Step → S → ScreenValue → List Step → Type 0
Left {S} does s d all t e rest =
    Rest does s d all t e rest
    × ((u : State S) → StopsIn (Takes does) Refuses (state t e) rest u → StopsIn (Takes does) Refuses (state s d) all u)

pub left_all : {S : Type 0} (does : CallRelation S) (s : S) (d : ScreenValue) (all : List Step) →
    Left does s d all s d all
left_all does s d all = ((λ u h. h), (λ u h. h))

pub left_none : {S : Type 0} (does : CallRelation S) (s t : S) (d e : ScreenValue) (all : List Step) →
    Left does s d all t e [] → Does does s d all t e
left_none does s t d e all (r, _) = r (state t e) refl

left_on : {S : Type 0} (does : CallRelation S)
    (s t u : S) (d e f : ScreenValue) (all : List Step) (x : Step) (rest : List Step) →
    Left does s d all t e (x ∷ rest) → Takes does (state t e) x (state u f) → Left does s d all u f rest
left_on does s t u d e f all x rest (r, q) h = ((λ v k. r v (state u f, h, k)), (λ v k. q v (inr (state u f, h, k))))

left_stop : {S : Type 0} (does : CallRelation S)
    (s t u : S) (d e f : ScreenValue) (all : List Step) (x : Step) (rest : List Step) →
    Left does s d all t e (x ∷ rest) → Refuses (state t e) x (state u f) → Stops does s d all u f
left_stop does s t u d e f all x rest (r, q) h = q (state u f) (inl h)

-- The steps that remain after a list of steps is taken.
pub left_through : {S : Type 0} (does : CallRelation S) (s t u : S) (d e f : ScreenValue) (all one rest : List Step) →
    Left does s d all t e (one ++ rest) → Does does t e one u f → Left does s d all u f rest
left_through does s t u d e f all one rest (r, q) h = (
  (λ v k. r v (folds_then (Takes does) one rest (state t e) (state u f) v h k)),
  (λ v k. q v (stops_then (Takes does) Refuses one rest (state t e) (state u f) v h k)),
)

pub left_within : {S : Type 0} (does : CallRelation S) (s t u : S) (d e f : ScreenValue) (all one rest : List Step) →
    Left does s d all t e (one ++ rest) → Stops does t e one u f → Stops does s d all u f
left_within does s t u d e f all one rest (r, q) h =
    q (state u f) (stops_first (Takes does) Refuses one rest (state t e) (state u f) h)

-- The prints that remain after one more print is done.
pub prints_left : {S : Type 0} (does : CallRelation S) (s t u : S) (d e f : ScreenValue) (all : List Step) (c n k : ℕ) →
    k < n → Left does s d all t e (replicate (n - k) (Print c)) → Takes does (state t e) (Print c) (state u f) →
    Left does s d all u f (replicate (n - (k + 1)) (Print c))
prints_left {S} does s t u d e f all c n k h left done =
    let gap : n - k ≡ suc (n - (k + 1)) = omega (arith, h) in
    left_on does s t u d e f all (Print c) (replicate (n - (k + 1)) (Print c))
    (subst (λ (steps : List Step). Left does s d all t e steps) (ap (λ (m : ℕ). replicate m (Print c)) gap) left) done

pub prints_stop : {S : Type 0} (does : CallRelation S) (s t u : S) (d e f : ScreenValue) (all : List Step) (c n k : ℕ) →
    k < n → Left does s d all t e (replicate (n - k) (Print c)) → Refuses (state t e) (Print c) (state u f) →
    Stops does s d all u f
prints_stop {S} does s t u d e f all c n k h left refusal =
    let gap : n - k ≡ suc (n - (k + 1)) = omega (arith, h) in
    left_stop does s t u d e f all (Print c) (replicate (n - (k + 1)) (Print c))
    (subst (λ (steps : List Step). Left does s d all t e steps) (ap (λ (m : ℕ). replicate m (Print c)) gap) left)
    refusal

-- ---- facts for the code's functions, with their tests of numbers

pub ruleset steps_called = (called, called_twice, stepping)

pub ruleset tested_steps = (nat_tests, steps_called)

pub ruleset steps_taken = (tested_steps, taken)

pub ruleset tested_refusal = (nat_tests, taken, refused)

pub ruleset called_or_refused = (called, tested_refusal)

pub ruleset pages_exchanged = (nat_tests, alternating, alternating_stops, freshening, freshening_stops)

-- ==== The steps of a sequence, determined by the tests that the code makes.

pub reported_steps : (c : ℕ) → ((c == 0xFFFD) || (nat_le 0x80 c && nat_le c 0x9F)) ≡ true →
    character_steps c ≡ CallBack (UnhandledChar c) ∷ []
unfolding character_steps
reported_steps c e = rw e refl

pub printed_steps : (c : ℕ) → ((c == 0xFFFD) || (nat_le 0x80 c && nat_le c 0x9F)) ≡ false →
    character_steps c ≡ Print c ∷ []
unfolding character_steps
printed_steps c e = rw e refl

pub control_low : (b : ℕ) → b < 13 → b ≢ 7 → b ≢ 8 → b ≢ 9 →
    (nat_le 0x0A b && nat_le b 0x0C) ≡ false → control_steps b ≡ CallBack (UnhandledControl b) ∷ []
unfolding control_steps
control_low b h x y z w = grind (arith, nat_tests)

pub control_high : (b : ℕ) → 16 ≤ b → control_steps b ≡ CallBack (UnhandledControl b) ∷ []
unfolding control_steps
control_high b h = grind (arith, nat_tests)

pub control_feeds : (b : ℕ) → (nat_le 0x0A b && nat_le b 0x0C) ≡ true → control_steps b ≡ LineFeed ∷ []
unfolding control_steps
control_feeds b h = grind (arith, nat_tests)

pub escape_intermediate : (intermediates : List ℕ) (b : ℕ) → 0 < length intermediates →
    escape_steps intermediates b ≡ CallBack (UnhandledEscape (intermediate_at 0 intermediates) (intermediate_at 1 intermediates) b) ∷ []
unfolding escape_steps
escape_intermediate [] b h = absurd (omega (arith, h))
escape_intermediate (intermediate ∷ intermediates) b h = refl

pub named_both : (name text : List ℕ) → bytes_eq name (codes "0") ≡ true →
    named_steps name text ≡ CallBack (SetWindowIconName text) ∷ CallBack (SetWindowTitle text) ∷ []
unfolding named_steps
named_both name text e = rw e refl

pub other_group : (on : Bool) (report : CallValue) (group : List ℕ) →
    length group ≢ 1 → mode_steps on report (group ∷ []) ≡ CallBack report ∷ []
other_group on report [] h = refl
other_group on report (x ∷ []) h = absurd (h refl)
other_group on report (x ∷ y ∷ zs) h = refl

pub sized : (groups : List (List ℕ)) (screen : ScreenValue) (height width rows cols : ℕ) → number_at 0 groups ≡ 8 →
    height ≡ length screen.page.rows → width ≡ screen.page.width → rows ≡ size_or height 1 groups →
    cols ≡ size_or width 2 groups → window_steps groups (seen_of screen) ≡ CallBack (Resize rows cols) ∷ []
unfolding window_steps
sized groups screen height width rows cols asked h w r c = rw (asked, r, c, h, w) refl

pub other_parts : (parts : List (List ℕ)) → length parts ≢ 2 →
    length parts ≢ 3 → osc_steps parts ≡ CallBack (UnhandledOsc parts) ∷ []
other_parts [] h k = refl
other_parts (a ∷ []) h k = refl
other_parts (a ∷ b ∷ []) h k = absurd (h refl)
other_parts (a ∷ b ∷ c ∷ []) h k = absurd (k refl)
other_parts (a ∷ b ∷ c ∷ d ∷ rest) h k = refl

-- ==== The steps that remain after one more group, part or print, and the cases of the number of parts.

-- The fallback item for an index out of bounds.
abbrev pub nothing : Bor (List ℕ)
nothing = record { ref_ptr = (0, 0); now = [] }

pub one_group : (on : Bool) (report : CallValue) (group : List ℕ) → length group ≡ 1 →
    mode_steps on report (group ∷ []) ≡ mode_step on report (get_or group 0 0)
one_group on report [] h = absurd (omega (arith, h))
one_group on report (x ∷ []) h = append-nil (mode_step on report x)
one_group on report (x ∷ y ∷ zs) h = absurd (omega (arith, h))

modes_parted : (on : Bool) (report : CallValue) (x : List ℕ) (xs : List (List ℕ)) →
    mode_steps on report (x ∷ xs) ≡ mode_steps on report (x ∷ []) ++ mode_steps on report xs
modes_parted on report [] xs = refl
modes_parted on report (n ∷ []) xs =
    ap (λ (steps : List Step). steps ++ mode_steps on report xs) (sym (append-nil (mode_step on report n)))
modes_parted on report (n ∷ m ∷ ns) xs = refl

modes_next : (on : Bool) (report : CallValue) (groups : List (List ℕ)) (i : ℕ) (group : List ℕ) →
    i < length groups → group ≡ get_or groups i [] →
    mode_steps on report (drop i groups)
    ≡ mode_steps on report (group ∷ []) ++ mode_steps on report (drop (i + 1) groups)
modes_next on report groups i group h is =
    ap (mode_steps on report) (drop_more groups i [] h)
    ∙ ap (λ (g : List ℕ). mode_steps on report (g ∷ drop (i + 1) groups)) (sym is)
    ∙ modes_parted on report group (drop (i + 1) groups)

-- The steps that remain after one more group of modes is set, or after an allocation fails within it.
pub modes_left : {S : Type 0} (does : CallRelation S) (s t u : S) (d e f : ScreenValue) (all : List Step) (on : Bool)
    (report : CallValue) (groups : List (List ℕ)) (i : ℕ) (group : List ℕ) →
    i < length groups → group ≡ get_or groups i [] →
    Left does s d all t e (mode_steps on report (drop i groups)) →
    Does does t e (mode_steps on report (group ∷ [])) u f →
    Left does s d all u f (mode_steps on report (drop (i + 1) groups))
modes_left {S} does s t u d e f all on report groups i group h is left done =
    left_through does s t u d e f all (mode_steps on report (group ∷ []))
    (mode_steps on report (drop (i + 1) groups))
    (subst (λ (steps : List Step). Left does s d all t e steps) (modes_next on report groups i group h is) left) done

pub modes_stop : {S : Type 0} (does : CallRelation S) (s t u : S) (d e f : ScreenValue) (all : List Step) (on : Bool)
    (report : CallValue) (groups : List (List ℕ)) (i : ℕ) (group : List ℕ) →
    i < length groups → group ≡ get_or groups i [] →
    Left does s d all t e (mode_steps on report (drop i groups)) →
    Stops does t e (mode_steps on report (group ∷ [])) u f → Stops does s d all u f
modes_stop {S} does s t u d e f all on report groups i group h is left stop =
    left_within does s t u d e f all (mode_steps on report (group ∷ []))
    (mode_steps on report (drop (i + 1) groups))
    (subst (λ (steps : List Step). Left does s d all t e steps) (modes_next on report groups i group h is) left) stop

-- The steps that remain after one more group of SGR parameters is applied.
pub settings_left : {S : Type 0} (does : CallRelation S)
    (s t u : S) (d e f : ScreenValue) (all : List Step) (whole : List (List ℕ)) (wanted : Wanted)
    (groups : List (List ℕ)) (i : ℕ) (read : GroupRead) →
    i < length groups → read ≡ group_read wanted (get_or groups i []) →
    Rest does s d all t e (sgr_from whole wanted (drop i groups)) →
    Does does t e (reading_steps whole read.reading) u f →
    Rest does s d all u f (sgr_from whole read.wanted (drop (i + 1) groups))
settings_left {S} does s t u d e f all whole wanted groups i read h is rest done =
    let left : GroupRead → List Step =
    λ (r : GroupRead). reading_steps whole r.reading ++ sgr_from whole r.wanted (drop (i + 1) groups) in
    let next : sgr_from whole wanted (drop i groups) ≡ left read =
    ap (sgr_from whole wanted) (drop_more groups i [] h) ∙ ap left (sym is) in
    rest_on does s t u d e f all (reading_steps whole read.reading)
    (sgr_from whole read.wanted (drop (i + 1) groups))
    (subst (λ (steps : List Step). Rest does s d all t e steps) next rest) done

-- ---- parts by their number

pub two_parts : (parts : List (Bor (List ℕ))) → length parts ≡ 2 →
    map (λ (part : Bor (List ℕ)). part.now) parts ≡ (get_or parts 0 nothing).now ∷ (get_or parts 1 nothing).now ∷ []
two_parts [] h = absurd (omega (arith, h))
two_parts (a ∷ []) h = absurd (omega (arith, h))
two_parts (a ∷ b ∷ []) h = refl
two_parts (a ∷ b ∷ c ∷ rest) h = absurd (omega (arith, h))

pub three_parts : (parts : List (Bor (List ℕ))) → length parts ≡ 3 →
    map (λ (part : Bor (List ℕ)). part.now) parts
    ≡ (get_or parts 0 nothing).now ∷ (get_or parts 1 nothing).now ∷ (get_or parts 2 nothing).now ∷ []
three_parts [] h = absurd (omega (arith, h))
three_parts (a ∷ []) h = absurd (omega (arith, h))
three_parts (a ∷ b ∷ []) h = absurd (omega (arith, h))
three_parts (a ∷ b ∷ c ∷ []) h = refl
three_parts (a ∷ b ∷ c ∷ d ∷ rest) h = absurd (omega (arith, h))

pub more_parts : (parts : List (Bor (List ℕ))) → length parts ≢ 2 → length parts ≢ 3 →
    osc_steps (map (λ (part : Bor (List ℕ)). part.now) parts)
    ≡ CallBack (UnhandledOsc (map (λ (part : Bor (List ℕ)). part.now) parts)) ∷ []
more_parts parts h k =
    let same : length (map (λ (part : Bor (List ℕ)). part.now) parts) ≡ length parts =
    length-map parts (λ part. part.now) in
    other_parts (map (λ (part : Bor (List ℕ)). part.now) parts) (λ e. h (sym same ∙ e)) (λ e. k (sym same ∙ e))

-- The lemmas on commands with two, three and more parts or groups.
pub ruleset parts_counted = (two_parts, three_parts, more_parts)

pub ruleset groups_met = (one_group, other_group)

-- ==== What a control sequence does, by the tests that the code makes.

-- The steps of control sequences with one count, and of all others without a private marker.
counted_does : {S : Type 0} (does : CallRelation S)
    (found : Option PageStep) (step : PageStep) (others : List Step) (s : S) (d e : ScreenValue) →
    Some step ≡ found → e ≡ display_after (OnPage step) d → Does does s d (one_or found others) s e
counted_does does (Some found) step others s d e is h =
    let same : step ≡ found = cc in
    stepping does (OnPage found) s d e refl (h ∙ ap (λ (x : PageStep). display_after (OnPage x) d) same)
counted_does does None step others s d e is h = absurd cc

pub unmarked_counted : {S : Type 0} (does : CallRelation S)
    (groups : List (List ℕ)) (b : ℕ) (step : PageStep) (s : S) (d e : ScreenValue) →
    Some step ≡ counted_step b (number_or 1 0 groups) → e ≡ display_after (OnPage step) d →
    Does does s d (unmarked_steps groups b (seen_of d)) s e
unmarked_counted does groups b step s d e is h =
    counted_does does (counted_step b (number_or 1 0 groups)) step (scrolling_steps groups b (seen_of d)) s d e is h

pub unmarked_other : {S : Type 0} (does : CallRelation S)
    (groups : List (List ℕ)) (b : ℕ) (s t : S) (d e : ScreenValue) →
    None ≡ counted_step b (number_or 1 0 groups) →
    Does does s d (scrolling_steps groups b (seen_of d)) t e → Does does s d (unmarked_steps groups b (seen_of d)) t e
unmarked_other does groups b s t d e is h =
    subst (λ (found : Option PageStep). Does does s d (one_or found (scrolling_steps groups b (seen_of d))) t e) is h

pub unmarked_other_stops : {S : Type 0} (does : CallRelation S)
    (groups : List (List ℕ)) (b : ℕ) (s t : S) (d e : ScreenValue) →
    None ≡ counted_step b (number_or 1 0 groups) →
    Stops does s d (scrolling_steps groups b (seen_of d)) t e → Stops does s d (unmarked_steps groups b (seen_of d)) t e
unmarked_other_stops does groups b s t d e is h =
    subst (λ (found : Option PageStep). Stops does s d (one_or found (scrolling_steps groups b (seen_of d))) t e) is h

pub unmarked_stops : {S : Type 0} (does : CallRelation S)
    (groups : List (List ℕ)) (intermediates : List ℕ) (b : ℕ) (s t : S) (d e : ScreenValue) →
    intermediate_at 0 intermediates ≡ None → Stops does s d (unmarked_steps groups b (seen_of d)) t e →
    Stops does s d (csi_steps groups intermediates b (seen_of d)) t e
unmarked_stops does groups [] b s t d e h k = k
unmarked_stops does groups (m ∷ intermediates) b s t d e h k = search rules

pub unmarked_does : {S : Type 0} (does : CallRelation S)
    (groups : List (List ℕ)) (intermediates : List ℕ) (b : ℕ) (s t : S) (d e : ScreenValue) →
    intermediate_at 0 intermediates ≡ None → Does does s d (unmarked_steps groups b (seen_of d)) t e →
    Does does s d (csi_steps groups intermediates b (seen_of d)) t e
unmarked_does does groups [] b s t d e h k = k
unmarked_does does groups (m ∷ intermediates) b s t d e h k = search rules

pub intermediate_does : {S : Type 0} (does : CallRelation S)
    (groups : List (List ℕ)) (intermediates : List ℕ) (intermediate b : ℕ) (s t : S) (d e : ScreenValue) →
    intermediate_at 0 intermediates ≡ Some intermediate → Does does s d (intermediate_steps intermediate (intermediate_at 1 intermediates) groups b) t e →
    Does does s d (csi_steps groups intermediates b (seen_of d)) t e
intermediate_does does groups [] intermediate b s t d e h k = search rules
intermediate_does does groups (m ∷ intermediates) intermediate b s t d e h k = search rules

pub intermediate_stops : {S : Type 0} (does : CallRelation S)
    (groups : List (List ℕ)) (intermediates : List ℕ) (intermediate b : ℕ) (s t : S) (d e : ScreenValue) →
    intermediate_at 0 intermediates ≡ Some intermediate → Stops does s d (intermediate_steps intermediate (intermediate_at 1 intermediates) groups b) t e →
    Stops does s d (csi_steps groups intermediates b (seen_of d)) t e
intermediate_stops does groups [] intermediate b s t d e h k = search rules
intermediate_stops does groups (m ∷ intermediates) intermediate b s t d e h k = search rules

-- The steps of SGR and of CUP, which the code tests for first.
pub unmarked_sgr : (groups : List (List ℕ)) (b : ℕ) (seen : Seen) → b ≡ 0x6D → unmarked_steps groups b seen ≡ sgr_steps groups
unfolding counted_step scrolling_steps other_steps
unmarked_sgr groups b seen is = rw is refl

pub unmarked_place : (groups : List (List ℕ)) (b : ℕ) (seen : Seen) → b ≡ 0x48 →
    unmarked_steps groups b seen ≡ OnPage (Move (To (number_or 1 0 groups - 1) (number_or 1 1 groups - 1))) ∷ []
unfolding counted_step scrolling_steps other_steps
unmarked_place groups b seen is = rw is refl

-- The lemmas on control sequences, with and without intermediate bytes.
pub ruleset by_intermediates = (unmarked_does, unmarked_stops, intermediate_does, intermediate_stops)

pub ruleset by_counts = (unmarked_counted, unmarked_other, unmarked_other_stops)

-- ==== A step that sets a mode, given as an equal one.

pub mode_set : {S : Type 0} (does : CallRelation S) (x y : ModeStep) (s : S) (d e : ScreenValue) →
    x ≡ y → e ≡ display_after (SetMode x) d → Does does s d (SetMode y ∷ []) s e
mode_set does x y s d e is h =
    subst (λ (z : ModeStep). Does does s d (SetMode z ∷ []) s e) is (stepping does (SetMode x) s d e refl h)
