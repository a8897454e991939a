-- The input that a run has read, the output that it has written, and the terminal that reads the output.
use Rattle.std.proofs.Common.{◌≡◌, ℕ, ◌+◌, ◌*◌, ◌/◌, ◌<◌, ◌≤◌, zero, suc, List, [], ◌∷◌, ◌++◌, length, map, take, refl}
use Rattle.std.proofs.Common.{sym, ap, ap₂, ◌∙◌, append_assoc, arith, subst}
use Rattle.std.proofs.lemmas.List.{append-nil, length-append, map-append, take-append-le, take_all}
use Rattle.std.proofs.lemmas.Nat.{div-mul-add}
use Rattle.std.specs.List.{AllByRecursion, FoldsTo}
use Rattle.vt_cells.specs.Op.{bytes_of_all}
use Rattle.vt_scan.specs.Automaton.{start}
use Rattle.vt_grid.specs.Page.{SameSize}
use Rattle.vt_redraw.specs.Redraw.{difference, redraw}
use Rattle.vt_redraw.specs.Steady.{IsSteady}
use Rattle.vt_screen.specs.Chain.{chain_text, last_screen, texts_after, CanShowOn}
use Rattle.vt_screen.specs.MadeOf.{IsMadeOf, drawing_controls, drawing_finals}
use Rattle.vt_screen.specs.Screen.{IsColored, ScreenValue, IsScreen}
use Rattle.vt_screen.specs.Shown.{display, display_change, shown_text}
use Rattle.vt_screen.specs.CallsOfRun.{screen_in}
use Rattle.vt_screen.proofs.MadeOf.{difference_made, made_append, made_nothing, redraw_made}
use Rattle.vt_screen.proofs.Shown.{same_shown}
use Rattle.vt100.specs.Parser.{ParserValue}
use Rattle.vt100.specs.Pieces.{IsFine, IsPlainParser, Processes, Processing, ShowsLast, bytes_in}
use Rattle.vt100.proofs.Quiet.{chain_pieces}
use Rattle.vt_mirror.specs.Runs.{IsUpdatedAfter, multiples, screens_on_way, screens_to_end, text_to_end}
use Rattle.vt_mirror.proofs.Bookkeeping.{size_through}

-- ==== The input that a run has read and the output that it has written, update by update.

-- ---- the screens of the updates

-- The screens after the first intervals are unchanged when the input grows.
same_screens : (first : ScreenValue) (every count : ℕ) (input more : List ℕ) → count * every ≤ length input →
    map (λ n. screen_in start first (take n (input ++ more))) (multiples every count)
    ≡ map (λ n. screen_in start first (take n input)) (multiples every count)
same_screens first every zero input more inside = refl
same_screens first every (suc count) input more inside =
    let here : ℕ → ScreenValue = λ n. screen_in start first (take n input) in
    let there : ℕ → ScreenValue = λ n. screen_in start first (take n (input ++ more)) in
    let fewer : count * every ≤ length input = omega (arith, inside) in
    map-append there (multiples every count) (suc count * every ∷ [])
    ∙ (ap₂ (λ (xs ys : List ScreenValue). xs ++ ys) (same_screens first every count input more fewer)
    (ap (λ (bytes : List ℕ). screen_in start first bytes ∷ [])
    (take-append-le (suc count * every) input more inside))
    ∙ sym (map-append here (multiples every count) (suc count * every ∷ [])))

count_is : (every count : ℕ) (input : List ℕ) → length input ≡ count * every → 0 < every → length input / every ≡ count
count_is every count input whole some =
    ap (λ (n : ℕ). n / every) (whole ∙ sum_zero (count * every)) ∙ div-mul-add count every 0 some where
      sum_zero : (n : ℕ) → n ≡ n + 0
      sum_zero n = omega arith

-- Reading fewer bytes than an interval makes no update due.
pub fewer_on_way : (first : ScreenValue) (every count : ℕ) (input more : List ℕ) → length input ≡ count * every →
    length more < every → screens_on_way first every (input ++ more) ≡ screens_on_way first every input
fewer_on_way first every count input more whole fewer =
    let there : ℕ → ScreenValue = λ n. screen_in start first (take n (input ++ more)) in
    let here : ℕ → ScreenValue = λ n. screen_in start first (take n input) in
    let some : 0 < every = omega (arith, fewer) in
    let now : length (input ++ more) / every ≡ count =
    ap (λ (n : ℕ). n / every) (length-append input more ∙ ap (λ (n : ℕ). n + length more) whole)
    ∙ div-mul-add count every (length more) fewer in
    let before : length input / every ≡ count = count_is every count input whole some in
    ap (λ (n : ℕ). map there (multiples every n)) now
    ∙ (same_screens first every count input more (omega (arith, whole))
    ∙ ap (λ (n : ℕ). map here (multiples every n)) (sym before))

pub next_length : (every count : ℕ) (input more : List ℕ) → length input ≡ count * every → length more ≡ every →
    length (input ++ more) ≡ suc count * every
next_length every count input more whole much = omega (arith, length-append input more, whole, much)

-- Reading a full interval makes one more update due.
pub more_on_way : (first : ScreenValue) (every count : ℕ) (input more : List ℕ) → 0 < every
    → length input ≡ count * every → length more ≡ every
    → screens_on_way first every (input ++ more)
    ≡ screens_on_way first every input ++ (screen_in start first (input ++ more) ∷ [])
more_on_way first every count input more some whole much =
    let there : ℕ → ScreenValue = λ n. screen_in start first (take n (input ++ more)) in
    let here : ℕ → ScreenValue = λ n. screen_in start first (take n input) in
    let length_is : length (input ++ more) ≡ suc count * every = next_length every count input more whole much in
    let now : length (input ++ more) / every ≡ suc count =
    count_is every (suc count) (input ++ more) length_is some in
    let before : length input / every ≡ count = count_is every count input whole some in
    ap (λ (n : ℕ). map there (multiples every n)) now
    ∙ (map-append there (multiples every count) (suc count * every ∷ [])
    ∙ ap₂ (λ (xs ys : List ScreenValue). xs ++ ys)
    (same_screens first every count input more (omega (arith, whole))
    ∙ ap (λ (n : ℕ). map here (multiples every n)) (sym before))
    (ap (λ (bytes : List ℕ). screen_in start first bytes ∷ [])
    (take_all (suc count * every) (input ++ more) (omega (arith, length_is)))))

pub none_on_way : (first : ScreenValue) (every : ℕ) → 0 < every → screens_on_way first every [] ≡ []
none_on_way first every some =
    ap (λ (n : ℕ). map (λ n. screen_in start first (take n [])) (multiples every n)) (count_is every 0 [] (omega arith) some)

-- ---- one more text and last screen

pub last_of_more : (first : ScreenValue) (nexts : List ScreenValue) (screen : ScreenValue) →
    last_screen first (nexts ++ (screen ∷ [])) ≡ screen
last_of_more first [] screen = refl
last_of_more first (x ∷ xs) screen = last_of_more x xs screen

behind_more : (prev : ScreenValue) (nexts : List ScreenValue) (screen : ScreenValue) →
    texts_after prev (nexts ++ (screen ∷ []))
    ≡ texts_after prev nexts ++ bytes_of_all (difference (display screen) (display (last_screen prev nexts)))
behind_more prev [] screen = append-nil (bytes_of_all (difference (display screen) (display prev)))
behind_more prev (x ∷ xs) screen =
    let one = bytes_of_all (difference (display x) (display prev)) in
    ap (λ (text : List ℕ). one ++ text) (behind_more x xs screen)
    ∙ sym (append_assoc one (texts_after x xs)
    (bytes_of_all (difference (display screen) (display (last_screen x xs)))))

pub text_of_more : (first : ScreenValue) (nexts : List ScreenValue) (screen : ScreenValue) →
    chain_text first (nexts ++ (screen ∷ []))
    ≡ chain_text first nexts ++ bytes_of_all (difference (display screen) (display (last_screen first nexts)))
text_of_more first nexts screen =
    let one = bytes_of_all (redraw (display first)) in
    ap (λ (text : List ℕ). one ++ text) (behind_more first nexts screen)
    ∙ sym (append_assoc one (texts_after first nexts)
    (bytes_of_all (difference (display screen) (display (last_screen first nexts)))))

pub all_of_more : (P : ScreenValue → Type 0) (screens : List ScreenValue) (screen : ScreenValue) →
    AllByRecursion P screens → P screen → AllByRecursion P (screens ++ (screen ∷ []))
all_of_more P [] screen all one = (one, tt)
all_of_more P (x ∷ xs) screen all one = (all.0, all_of_more P xs screen all.1 one)

-- ---- what the texts contain

changes_made : (first prev : ScreenValue) (nexts : List ScreenValue) → IsColored prev →
    AllByRecursion (IsUpdatedAfter first) nexts → IsMadeOf drawing_finals drawing_controls (texts_after prev nexts)
changes_made first prev [] colored all = made_nothing drawing_finals drawing_controls
changes_made first prev (x ∷ xs) colored all =
    made_append drawing_finals drawing_controls (display_change prev x) (texts_after x xs)
    (difference_made x prev all.0.sound all.0.colored colored) (changes_made first x xs all.0.colored all.1)

pub chain_made : (first : ScreenValue) (nexts : List ScreenValue) →
    AllByRecursion (IsUpdatedAfter first) (first ∷ nexts) →
    IsMadeOf drawing_finals drawing_controls (chain_text first nexts)
chain_made first nexts all =
    made_append drawing_finals drawing_controls (shown_text first) (texts_after first nexts)
    (redraw_made first all.0.sound all.0.colored) (changes_made first first nexts all.0.colored all.1)

-- ==== A terminal that reads the output of a run displays its last screen.

can_show : (first reader : ScreenValue) → SameSize first.page reader.page → (screens : List ScreenValue) →
    AllByRecursion (IsUpdatedAfter first) screens → AllByRecursion (λ screen. IsSteady (display screen)) screens →
    AllByRecursion (CanShowOn reader) screens
can_show first reader size [] told steady = tt
can_show first reader size (screen ∷ screens) told steady = (
  record {
    sound = told.0.sound;
    colored = told.0.colored;
    steady = steady.0;
    size = same_shown screen reader (size_through screen.page first.page reader.page told.0.size size);
  },
  can_show first reader size screens told.1 steady.1,
)

pub follows : {S : Type 0} (first : ScreenValue) (every : ℕ) (input : List ℕ)
    (p q : ParserValue S) (calls : List Processing)
    → IsScreen p.screen → IsPlainParser p → SameSize first.page p.screen.page
    → AllByRecursion (IsUpdatedAfter first) (first ∷ screens_to_end first every input)
    → AllByRecursion (λ screen. IsSteady (display screen)) (first ∷ screens_to_end first every input)
    → bytes_in calls ≡ text_to_end first every input → FoldsTo Processes p calls q
    → AllByRecursion IsFine calls × ShowsLast p (screen_in start first input) q
follows first every input p q calls is plain size told steady bytes folds =
    let can = can_show first p.screen size (first ∷ screens_to_end first every input) told steady in
    let all = chain_pieces first (screens_to_end first every input) p q calls is plain can.0 can.1 bytes folds in (
      all.0,
      subst (λ (screen : ScreenValue). ShowsLast p screen q)
          (last_of_more first (screens_on_way first every input) (screen_in start first input)) all.1,
    )
