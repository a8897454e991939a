-- A viewer that joins late displays the screen of its last update, by the theorem on all viewers.
use Rattle.std.proofs.Common.{◌≡◌, ℕ, Global, List, [], ◌∷◌, Some, None, refl, sym, ap, subst, ◌∙◌}
use Rattle.std.proofs.lemmas.List.{append-nil}
use Rattle.std.specs.Prelude.{Result, Ok, String, string_bytes}
use Rattle.std.specs.List.{FoldsTo}
use Rattle.vt_cells.specs.declared.error.Error.{Error}
use Rattle.vt_redraw.specs.Steady.{IsSteady}
use Rattle.vt_screen.specs.Screen.{IsScreen, ScreenValue}
use Rattle.vt_screen.specs.Shown.{display}
use Rattle.vt_screen.specs.declared.diff_options.DiffOptions.{DiffOptions}
use Rattle.vt100.specs.Parser.{ParserValue}
use Rattle.vt100.specs.Pieces as pieces
use Rattle.vt100.specs.Pieces.{IsPlainParser, processing}
use Rattle.vt_mirror.specs.Calls.{Asks, JoinsMirror, MirrorProcesses}
use Rattle.vt_mirror.specs.Mirror.{MirrorValue}
use Rattle.vt_mirror.specs.Watching.{Ask, Goes, IsFresh, IsLeft, IsNew, IsTakenBy, Join, MirrorCall, Process}
use Rattle.vt_mirror.specs.Watching.{ReadsText, Sees, ShowsSeen, TakesUpdate, TakesSize, Watching}
use Rattle.vt_mirror.specs.declared.update.Update.{Update}
use Rattle.vt_mirror.specs.declared.update.Update.TheVariants.{Full}
use Rattle.example_contracts.specs.Remote.{ShowsScreen}

-- A text that is parsed by one call is read through calls to `process` that concatenate to it.
pub read_at_once : {S : Type 0} (text : List ℕ) (answer : Result (Unit {0}) Error) (old new : ParserValue S) →
    IsScreen new.screen → pieces.Processes old (processing text answer) new → ReadsText text old new
read_at_once text answer old new sound processes = record {
  sound = sound;
  calls = processing text answer ∷ [];
  whole = append-nil text;
  reads = (new, processes, refl);
}

pub takes_full : {S : Type 0} (rows cols : ℕ) (text : String Global) (read : List ℕ) (old sized new : ParserValue S) →
    TakesSize rows cols old sized → read ≡ string_bytes text →
    ReadsText read sized new → TakesUpdate (Full rows cols text) old new
takes_full {S} rows cols text read old sized new takes same reads =
    (sized, takes, subst (λ (t : List ℕ). ReadsText t sized new) same reads)

pub late_shows : {S : Type 0} →
    ((number : ℕ) (calls : List MirrorCall) (old new : Watching S) → IsFresh old.mirror →
    IsNew old → FoldsTo (Goes number) old calls new → ShowsSeen new) →
    (before read joined told : MirrorValue) (output : List ℕ)
    (answer : Result (Unit {0}) Error) (number : ℕ) (options : DiffOptions) (update : Update) (old new : ParserValue S)
    → IsFresh before
    → IsScreen old.screen → IsPlainParser old → MirrorProcesses before output answer read → joined.parser ≡ read.parser
    → JoinsMirror read.viewers (Ok number) joined.viewers → Asks options joined number (Ok (Some update)) told
    → TakesUpdate update old new → IsSteady (display told.parser.screen) → ShowsScreen told.parser.screen new
late_shows {S} law before read joined told output answer number options update
    old new fresh sound plain processes same joins asks takes steady =
    let first : Watching S = record { mirror = before; viewer = old; seen = None } in
    let second : Watching S = record { mirror = read; viewer = old; seen = None } in
    let third : Watching S = record { mirror = joined; viewer = old; seen = None } in
    let last : Watching S = record { mirror = told; viewer = new; seen = Some joined.parser.screen } in
    let screens : told.parser.screen ≡ joined.parser.screen =
    ap (λ (p : ParserValue (Unit {0})). p.screen) asks.answers.parser in
    let sees : Sees update third last =
    record { steady = subst (λ (s : ScreenValue). IsSteady (display s)) screens steady; takes = takes; seen = refl } in
    let taken : IsTakenBy number number update third last =
    record { own = λ e. sees; others = λ other. absurd (other refl) } in
    let reading : IsLeft first second = record { viewer = refl; seen = refl } in
    let joining : IsLeft second third = record { viewer = refl; seen = refl } in
    let goes : FoldsTo (Goes number) first
    (Process output answer ∷ Join (Ok number) ∷ Ask options number (Ok (Some update)) ∷ []) last
    = (second, (processes, reading), (third, ((same, joins), joining), (last, (asks, taken), refl))) in
    let all = law number (Process output answer ∷ Join (Ok number) ∷ Ask options number (Ok (Some update)) ∷ [])
    first last fresh (record { sound = sound; plain = plain; seen = refl }) goes in
    record { plain = all.plain; shows = all.shows ∙ ap display (sym screens) }
