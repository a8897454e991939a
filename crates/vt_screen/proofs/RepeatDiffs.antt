-- A diff in which runs are written with REP promises what the diff without REP promises.
use Rattle.std.proofs.Common.{◌≡◌, ℕ, ◌-◌, ◌≤◌, Bool, true, false, List, [], ◌∷◌, ◌++◌, length, refl, sym, ap, subst}
use Rattle.std.proofs.Common.{◌∙◌, arith, length-append}
use Rattle.std.specs.Prelude.{IsTrue}
use Rattle.std.specs.Char.{encode_utf8}
use Rattle.std.specs.List.{AllByRecursion, flat_map}
use Rattle.vt_scan.specs.Automaton.{start}
use Rattle.vt_redraw.specs.Doubts.{doubts_of}
use Rattle.vt_redraw.specs.Picture.{Picture}
use Rattle.vt_redraw.specs.declared.form.Form.{Form}
use Rattle.vt_screen.specs.Again.{IsNoCallback, KeepsAside, LeavesPlain}
use Rattle.vt_screen.specs.CallsOfRun.{screen_after_all, screen_in}
use Rattle.vt_screen.specs.Internals.{IsPlainDiff, KeepsAgreed, KeepsPieces}
use Rattle.vt_screen.specs.Diffs.{KeepsScreensPlain, MayRepeat, RepeatsOnlyInRows, diff_controls, diff_finals}
use Rattle.vt_screen.specs.Diffs.{finals_with}
use Rattle.vt_screen.specs.MadeOf.{IsMadeOf}
use Rattle.vt_screen.specs.Repeating.{HasRuns, IsReaderWithRoom, IsShortened, ReadsAlike, Repeats, Run, full_text}
use Rattle.vt_screen.specs.Repeating.{repeat_text, short_text}
use Rattle.vt_screen.specs.Portable.{IsPortableFrom}
use Rattle.vt_screen.specs.Screen.{IsScreen, ScreenValue}
use Rattle.vt_screen.specs.Shown.{IsPlain, IsReaderOf, IsSameIfEmpty, IsReadBy, Makes, ReadsTo, RedrawsFrom, display}
use Rattle.vt_screen.specs.Shown.{form_of, shown_text_in}
use Rattle.vt_screen.specs.Steps.{Step as Action}
use Rattle.vt_screen.specs.declared.repeat.Repeat.{Repeat}
use Rattle.vt_screen.specs.declared.repeat.Repeat.TheVariants.{Never, Ascii, Any}
use Rattle.vt_screen.proofs.RepeatTokens.{made_none}
use Rattle.vt_screen.proofs.RepeatRead.{repeats_itself}

-- ---- reading

reads_plain : (plain text : List ℕ) (reader after : ScreenValue) → ReadsAlike plain text reader →
    ReadsTo text reader after → ReadsTo plain reader after
reads_plain plain text reader after alike reads = sym alike.reads ∙ reads

reads_repeated : (plain text : List ℕ) (reader after : ScreenValue) → ReadsAlike plain text reader →
    ReadsTo plain reader after → ReadsTo text reader after
reads_repeated plain text reader after alike reads = alike.reads ∙ reads

module _ (was new : ScreenValue) (plain text : List ℕ)
    (same : (reader : ScreenValue) → IsScreen reader → ReadsAlike plain text reader) where
  read_by : IsReadBy (IsReaderOf (display new) (display was)) plain → IsReadBy (IsReaderOf (display new) (display was)) text
  read_by quiet reader is =
      let (after, reads) = quiet reader is in
      (after, reads_repeated plain text reader after (same reader is.is.sound) reads)

  made : (Made : (reader after : ScreenValue) → Type 0) → Makes (IsReaderOf (display new) (display was)) plain Made →
      Makes (IsReaderOf (display new) (display was)) text Made
  made Made makes reader after is reads =
      makes reader after is (reads_plain plain text reader after (same reader is.is.sound) reads)

  pub repeated_redraws : RedrawsFrom was new plain → RedrawsFrom was new text
  repeated_redraws r = record {
    quiet = λ steady. read_by (r.quiet steady);
    shows = λ steady. made _ (r.shows steady);
    rows = λ steady. made _ (r.rows steady);
    cursor = λ steady. made _ (r.cursor steady);
    rest = λ steady. made _ (r.rest steady);
  }

-- ---- plain again

pub repeated_leaves : (plain text : List ℕ) (reader : ScreenValue) → ReadsAlike plain text reader →
    LeavesPlain plain reader → LeavesPlain text reader
repeated_leaves plain text reader alike leaves =
    let same : screen_in start reader text ≡ screen_in start reader plain =
    ap (λ (steps : List Action). screen_after_all steps reader) alike.steps in record {
      ground = alike.state ∙ leaves.ground;
      steps = subst (AllByRecursion IsNoCallback) (sym alike.steps) leaves.steps;
      plain = subst IsPlain (sym same) leaves.plain;
      aside = subst (KeepsAside reader) (sym same) leaves.aside;
    }

-- ---- whether runs may be written with REP at all

no_runs : (runs : List Run) → AllByRecursion (IsShortened Never) runs → runs ≡ []
no_runs [] h = refl
no_runs (run ∷ runs) h = absurd h.0.repeatable

-- If no character is repeatable, the output is unchanged.
unchanged : (plain text : List ℕ) → HasRuns Never plain text → text ≡ plain
unchanged plain text has =
    let none = no_runs has.runs has.are_shortened in
    has.in_short
    ∙ ap (λ (runs : List Run). flat_map short_text runs ++ has.rest) none
    ∙ sym (ap (λ (runs : List Run). flat_map full_text runs ++ has.rest) none)
    ∙ sym has.in_full

pub to_may_repeat : (repeat : Repeat) (was : ScreenValue) (plain text : List ℕ) →
    Repeats repeat was.page.width (was.page.width - was.page.column) plain text → MayRepeat repeat was plain text
to_may_repeat Never was plain text is = unchanged plain text is.runs
to_may_repeat Ascii was plain text is = is
to_may_repeat Any was plain text is = is

pub of_may_repeat : (repeat : Repeat) (was : ScreenValue) (plain text : List ℕ) → MayRepeat repeat was plain text →
    Repeats repeat was.page.width (was.page.width - was.page.column) plain text
of_may_repeat Never was plain text is =
    subst (Repeats Never was.page.width (was.page.width - was.page.column) plain) (sym is)
    (repeats_itself Never was.page.width (was.page.width - was.page.column) plain)
of_may_repeat Ascii was plain text is = is
of_may_repeat Any was plain text is = is

-- ---- the clauses of a diff with options

pub diff_again : (repeat : Repeat) (form : Form) (scroll : Bool) (was new : ScreenValue) (plain text : List ℕ) →
    IsPlainDiff form scroll was new plain → MayRepeat repeat was plain text → KeepsScreensPlain text
diff_again repeat form scroll was new plain text is may reader sound ready =
    repeated_leaves plain text reader ((of_may_repeat repeat was plain text may).same reader sound) (is.has.again reader ready)

pub diff_redraws : (repeat : Repeat) (form : Form) (scroll : Bool) (was new : ScreenValue) (plain text : List ℕ) →
    IsPlainDiff form scroll was new plain → MayRepeat repeat was plain text → RedrawsFrom was new text
diff_redraws repeat form scroll was new plain text is may =
    repeated_redraws was new plain text (of_may_repeat repeat was plain text may).same is.has.redraws

reader_with_room : (was new reader : ScreenValue) → IsReaderOf (display new) (display was) reader →
    IsReaderWithRoom was.page.width (was.page.width - was.page.column) reader
reader_with_room was new reader is =
    let width = ap (λ (p : Picture). p.width) is.shows in
    let column = ap (λ (p : Picture). p.column) is.shows in
    record { sound = is.is.sound; width_is = width; columns = λ some. omega (arith, some, column) }

pub diff_rows : (repeat : Repeat) (form : Form) (scroll : Bool) (was new : ScreenValue) (plain text : List ℕ) →
    IsPlainDiff form scroll was new plain → MayRepeat repeat was plain text → RepeatsOnlyInRows was new text
diff_rows repeat form scroll was new plain text is may reader reads =
    (of_may_repeat repeat was plain text may).rows (made_none scroll plain is.has.controls) reader
    (reader_with_room was new reader reads)

nothing : (xs : List ℕ) → length xs ≤ 0 → xs ≡ []
nothing [] h = refl
nothing (x ∷ xs) h = absurd (omega (arith, h))

pub diff_none : (repeat : Repeat) (form : Form) (scroll : Bool) (was new : ScreenValue) (plain text : List ℕ) →
    IsPlainDiff form scroll was new plain → MayRepeat repeat was plain text → display new ≡ display was → text ≡ []
diff_none repeat form scroll was new plain text is may same =
    let none = ap length (is.has.none same) in
    let less = (of_may_repeat repeat was plain text may).shorter in
    nothing text (omega (arith, none, less))

pub diff_redraw : (repeat : Repeat) (form : Form) (scroll : Bool) (was new : ScreenValue) (plain text : List ℕ) →
    IsPlainDiff form scroll was new plain → MayRepeat repeat was plain text → IsTrue scroll →
    length text ≤ length (shown_text_in form new)
diff_redraw repeat form scroll was new plain text is may scrolls =
    let long = is.redraw scrolls in
    let less = (of_may_repeat repeat was plain text may).shorter in
    omega (arith, long, less)

-- A portable diff stays portable when runs are written with REP.
pub diff_portable : (portable : Bool) (form : Form) (scroll : Bool) (was new : ScreenValue) (plain text : List ℕ) →
    IsPlainDiff form scroll was new plain → KeepsAgreed was.page.width (was.page.width - was.page.column) plain text →
    form ≡ form_of portable → IsTrue portable → IsPortableFrom was new text
diff_portable false form scroll was new plain text is keeps e asked = absurd cc
diff_portable true form scroll was new plain text is keeps e asked = λ steady reader reads.
    keeps reader (doubts_of (display was)) (reader_with_room was new reader reads)
    (is.has.portable e steady reader reads)

-- Empty output stands for no runs.
runs_nothing : (runs : List Run) (rest plain text : List ℕ) → plain ≡ flat_map full_text runs ++ rest →
    text ≡ flat_map short_text runs ++ rest → text ≡ [] → plain ≡ []
runs_nothing [] rest plain text full short empty = full ∙ sym short ∙ empty
runs_nothing (run ∷ runs) rest plain text full short empty =
    let a = ap length (sym short ∙ empty) in
    let b = length-append (short_text run ++ flat_map short_text runs) rest in
    let c = length-append (short_text run) (flat_map short_text runs) in
    let d = length-append run.before (encode_utf8 run.character ++ repeat_text run.count) in
    let e = length-append (encode_utf8 run.character) (repeat_text run.count) in
    absurd (omega (arith, a, b, c, d, e))

pub diff_empty : (repeat : Repeat) (form : Form) (scroll : Bool) (was new : ScreenValue) (plain text : List ℕ) →
    IsPlainDiff form scroll was new plain → MayRepeat repeat was plain text → IsSameIfEmpty was new text
diff_empty repeat form scroll was new plain text is may steady empty =
    let has = (of_may_repeat repeat was plain text may).runs in
    is.has.empty steady (runs_nothing has.runs has.rest plain text has.in_full has.in_short empty)

pub diff_made : (repeat : Repeat) (form : Form) (scroll : Bool) (was new : ScreenValue) (plain text : List ℕ) →
    IsPlainDiff form scroll was new plain → MayRepeat repeat was plain text → KeepsPieces plain text →
    IsMadeOf (finals_with repeat scroll) (diff_controls scroll) text
diff_made Never form scroll was new plain text is may keeps =
    subst (IsMadeOf (diff_finals scroll) (diff_controls scroll)) (sym may) is.has.controls
diff_made Ascii form scroll was new plain text is may keeps = keeps scroll is.has.controls
diff_made Any form scroll was new plain text is may keeps = keeps scroll is.has.controls
