-- Sending texts to a remote terminal, in one call or in several.
use Rattle.std.proofs.Common.{◌≡◌, false, inl, inr, sym, ◌∙◌, ℕ, ◌<◌, ◌^◌, List, [], ◌∷◌, ◌++◌, refl, subst, ap, zero}
use Rattle.std.proofs.Common.{suc, ◌+◌, ◌-◌, length, take, drop, get_or, Ok, Some, append_assoc, arith}
use Rattle.std.proofs.lemmas.Bool.{false≢true}
use Rattle.std.proofs.lemmas.List.{length-replicate, append-nil, length-drop, take-append-drop, take_all, take_more}
use Rattle.std.specs.List.{FoldsTo, AllByRecursion}
use Rattle.std.specs.Prelude.{Result}
use Rattle.vt_cells.specs.declared.error.Error.{Error}
use Rattle.vt_cells.specs.Attrs.{default_attrs}
use Rattle.vt_cells.specs.Op.{bytes_of_all}
use Rattle.vt_rows.specs.Row.{blank_row}
use Rattle.vt_rows.proofs.RowTexts.{folds_then}
use Rattle.vt_scan.specs.Automaton.{start, State}
use Rattle.vt_scan.specs.Scanner.{StandsFor}
use Rattle.vt_grid.specs.Page.{SameSize, Page}
use Rattle.vt_redraw.specs.Picture.{SamePictureSize}
use Rattle.vt_redraw.specs.Steady.{IsSteady}
use Rattle.vt_redraw.specs.Redraw.{difference, redraw}
use Rattle.vt_screen.specs.Screen.{IsScreen, ScreenValue, fresh_screen}
use Rattle.vt_screen.specs.Reading.{terminal, Terminal, terminal_after}
use Rattle.vt_screen.specs.Shown.{IsPlain, IsReader, IsReaderOf, KeepsRest, Redraws, display}
use Rattle.vt_screen.specs.Chain.{CanShowOn, chain_text, last_screen}
use Rattle.vt_screen.proofs.Shown.{shown_height}
use Rattle.vt100.specs.Parser.{ParserValue, Ran, does_nothing}
use Rattle.vt100.specs.Streams.{IsFreshParser}
use Rattle.vt100.specs.Pieces.{IsPlainParser, Processes, processing, HasRead, IsFine, Processing, ShowsLast, bytes_in}
use Rattle.vt_mirror.proofs.Runs.{all_of_more, last_of_more, text_of_more}
use Rattle.example_contracts.specs.Failing.{IsFailure}
use Rattle.example_contracts.specs.Remote.{ShowsScreen, HasFollowed, HasTaken, IsCut, IsWhole, SendsNext}

-- ==== The reasons why the second of two calls fails.

-- If the terminal had not failed before the second of two calls, that call can fail only because an allocation does.
pub fails_second : {S : Type 0} (before between : ParserValue S) (error : Error)
    → between.is_failed ≡ false → IsFailure between error → IsFailure before error
fails_second before between error fine (inl refused) = inl refused
fails_second before between error fine (inr failed) = absurd (false≢true (sym fine ∙ failed.1))

-- ==== New parsers, and runs in sequence.

pub fresh_parser : {S : Type 0} (rows cols capacity : ℕ) (p : ParserValue S) → 0 < rows → 0 < cols → IsScreen p.screen →
    StandsFor p.scanner start → p.screen ≡ fresh_screen rows cols capacity → IsFreshParser rows cols capacity p
fresh_parser rows cols capacity p tall wide sound begun shown =
    let page = (subst (λ (s : ScreenValue). IsScreen s) shown sound).page in
    record {
      has_rows = tall;
      few_rows = subst (λ (n : ℕ). n < 2 ^ 16) (length-replicate rows (blank_row default_attrs cols)) page.height;
      has_columns = wide;
      few_columns = page.columns;
      ground = begun;
      shown = shown;
    }

pub ran_more : (pieces : List (List ℕ)) (piece : List ℕ) (p q r : ParserValue (Unit {0})) →
    FoldsTo (Ran does_nothing) p pieces q → Ran does_nothing q piece r → FoldsTo (Ran does_nothing) p (pieces ++ (piece ∷ [])) r
ran_more pieces piece p q r folds ran = folds_then (Ran does_nothing) pieces (piece ∷ []) p q r folds (r, ran, refl)

-- ==== Sending a text to a remote terminal.

-- A plain terminal that parses the text displays the screen.
reads : {S : Type 0} (self : ScreenValue) (Reader : ScreenValue → Type 0)
    (text : List ℕ) (answer : Result (Unit {0}) Error) (old new : ParserValue S)
    → Redraws (display self) Reader KeepsRest text → IsSteady (display self)
    → IsPlainParser old → Reader old.screen → Processes old (processing text answer) new → ShowsScreen self new
reads self Reader text answer old new redraws steady plain reader processes =
    let ends = redraws.quiet steady old.screen reader in
    let all = (processes start (terminal start ends.0) plain.is_failed plain.scanner ends.1).1 in
    let made = redraws.shows steady old.screen ends.0 reader ends.1 in
    record {
      plain =
          record { is_failed = all.is_failed; scanner = all.scanner; screen = subst IsPlain (sym all.screen) made.0 };
      shows = ap display all.screen ∙ made.1;
    }

pub redrawn : {S : Type 0} (self : ScreenValue) (text : List ℕ) (answer : Result (Unit {0}) Error) (old new : ParserValue S)
    → Redraws (display self) (IsReader (display self)) KeepsRest text → IsSteady (display self)
    → IsScreen old.screen → IsPlainParser old → SamePictureSize (display self) (display old.screen)
    → Processes old (processing text answer) new → ShowsScreen self new
redrawn self text answer old new redraws steady sound plain size processes =
    reads self (IsReader (display self)) text answer old new redraws steady plain
    (record { sound = sound; plain = plain.screen; size = size }) processes

pub same_shown : (self other : ScreenValue) → SameSize self.page other.page → SamePictureSize (display self) (display other)
same_shown self other s = record { width = s.width; height = shown_height self ∙ (s.height ∙ sym (shown_height other)) }

pub differing : {S : Type 0} (self prev : ScreenValue) (text : List ℕ)
    (answer : Result (Unit {0}) Error) (old new : ParserValue S)
    → Redraws (display self) (IsReaderOf (display self) (display prev)) KeepsRest text → IsSteady (display self)
    → SameSize self.page prev.page
    → IsScreen old.screen → ShowsScreen prev old → Processes old (processing text answer) new → ShowsScreen self new
differing self prev text answer old new redraws steady size sound was processes =
    reads self (IsReaderOf (display self) (display prev)) text answer old new redraws steady was.plain (record {
      is = record {
        sound = sound;
        plain = was.plain.screen;
        size = subst (SamePictureSize (display self)) (sym was.shows) (same_shown self prev size);
      };
      shows = was.shows;
    }) processes

-- ==== Sending texts in several calls.

-- ---- Calls in sequence

bytes_then : (xs ys : List Processing) → bytes_in (xs ++ ys) ≡ bytes_in xs ++ bytes_in ys
bytes_then [] ys = refl
bytes_then (x ∷ xs) ys =
    ap (λ (bytes : List ℕ). x.bytes ++ bytes) (bytes_then xs ys) ∙ sym (append_assoc x.bytes (bytes_in xs) (bytes_in ys))

pub taken_none : {S : Type 0} (p : ParserValue S) → HasTaken [] p p
taken_none p = record { calls = []; whole = refl; folds = refl; fails = λ e. e }

pub taken_one : {S : Type 0} (bytes : List ℕ) (answer : Result (Unit {0}) Error) (p q : ParserValue S) →
    Processes p (processing bytes answer) q → q.is_failed ≡ false → HasTaken bytes p q
taken_one bytes answer p q processes fine = record {
  calls = processing bytes answer ∷ [];
  whole = append-nil bytes;
  folds = (q, processes, refl);
  fails = λ failed. absurd (false≢true (sym fine ∙ failed));
}

pub taken_then : {S : Type 0} (a b : List ℕ) (p q r : ParserValue S) →
    HasTaken a p q → HasTaken b q r → HasTaken (a ++ b) p r
taken_then a b p q r first second = record {
  calls = first.calls ++ second.calls;
  whole = bytes_then first.calls second.calls
      ∙ (ap (λ (bytes : List ℕ). bytes ++ bytes_in second.calls) first.whole
      ∙ ap (λ (bytes : List ℕ). a ++ bytes) second.whole);
  folds = folds_then Processes first.calls second.calls p q r first.folds second.folds;
  fails = λ failed. first.fails (second.fails failed);
}

pub fails_after : {S : Type 0} (bytes : List ℕ) (p q : ParserValue S) (error : Error) →
    HasTaken bytes p q → IsFailure q error → IsFailure p error
fails_after bytes p q error t (inl refused) = inl refused
fails_after bytes p q error t (inr failed) = inr (failed.0, t.fails failed.1)

-- ---- A text that is split

pub cut_none : {S : Type 0} (text : List ℕ) (p : ParserValue S) → IsCut text text p p
cut_none text p = record { front = []; whole = refl; takes = taken_none p }

pub cut_more : {S : Type 0} (text rest : List ℕ) (count : ℕ) (answer : Result (Unit {0}) Error) (p q r : ParserValue S)
    → IsCut text rest p q → Processes q (processing (take count rest) answer) r → r.is_failed ≡ false
    → IsCut text (take (length rest - count) (drop count rest)) p r
cut_more text rest count answer p q r c processes fine = record {
  front = c.front ++ take count rest;
  whole =
      append_assoc c.front (take count rest) (take (length rest - count) (drop count rest))
      ∙ (ap (λ (bytes : List ℕ). c.front ++ (take count rest ++ bytes))
      (take_all (length rest - count) (drop count rest) (omega (arith, length-drop count rest)))
      ∙ (ap (λ (bytes : List ℕ). c.front ++ bytes) (take-append-drop count rest) ∙ c.whole));
  takes =
      taken_then c.front (take count rest) p q r c.takes (taken_one (take count rest) answer q r processes fine);
}

pub cut_all : {S : Type 0} (text rest : List ℕ) (answer : Result (Unit {0}) Error) (p q r : ParserValue S)
    → IsCut text rest p q → Processes q (processing rest answer) r → r.is_failed ≡ false → HasTaken text p r
cut_all {S} text rest answer p q r c processes fine =
    subst (λ (bytes : List ℕ). HasTaken bytes p r) c.whole
    (taken_then c.front rest p q r c.takes (taken_one rest answer q r processes fine))

-- A text that was received in chunks has the effect of the whole text received at once.
pub as_one : {S : Type 0}
    → ((p q : ParserValue S) (calls : List Processing) (state : State) (after : Terminal) → p.is_failed ≡ false
    → StandsFor p.scanner state → terminal_after (terminal state p.screen) (bytes_in calls) ≡ Some after
    → FoldsTo Processes p calls q → AllByRecursion IsFine calls × HasRead p after q)
    → (text : List ℕ) (p q : ParserValue S) → HasTaken text p q → Processes p (processing text (Ok tt)) q
as_one law text p q t = λ state after fine stands reads.
    (refl, (law p q t.calls state after fine stands (ap (terminal_after (terminal state p.screen)) t.whole ∙ reads) t.folds).1)

-- ---- A redraw, and diffs after it

same_size_back : (a b : Page) → SameSize a b → SameSize b a
same_size_back a b s = record { width = sym s.width; height = sym s.height }

size_through : (a b c : Page) → SameSize a b → SameSize b c → SameSize a c
size_through a b c s t = record { width = s.width ∙ t.width; height = s.height ∙ t.height }

pub next_size : {S : Type 0} (first : ScreenValue) (nexts : List ScreenValue) (prev next : ScreenValue) (p q : ParserValue S) →
    HasFollowed first nexts prev p q → SameSize next.page first.page → SameSize next.page prev.page
next_size first nexts prev next p q f size =
    size_through next.page first.page prev.page size (same_size_back prev.page first.page f.size)

pub followed_first : {S : Type 0} (first : ScreenValue) (bytes : List ℕ) (answer : Result (Unit {0}) Error) (p q : ParserValue S)
    → IsWhole first → bytes ≡ bytes_of_all (redraw (display first))
    → Processes p (processing bytes answer) q → q.is_failed ≡ false → HasFollowed first [] first p q
followed_first first bytes answer p q whole text processes fine = record {
  whole = (whole, tt);
  size = record { width = refl; height = refl };
  last = refl;
  takes =
      subst (λ (text : List ℕ). HasTaken text p q)
      (text ∙ sym (append-nil (bytes_of_all (redraw (display first))))) (taken_one bytes answer p q processes fine);
}

pub followed_more : {S : Type 0} (first : ScreenValue) (nexts : List ScreenValue) (prev next : ScreenValue) (p q r : ParserValue S)
    → HasFollowed first nexts prev p q → SameSize next.page first.page → SendsNext next prev q r
    → HasFollowed first (nexts ++ (next ∷ [])) next p r
followed_more {S} first nexts prev next p q r f size s = record {
  whole = (f.whole.0, all_of_more IsWhole nexts next f.whole.1 s.whole);
  size = size;
  last = last_of_more first nexts next;
  takes =
      let change = λ (was : ScreenValue). bytes_of_all (difference (display next) (display was)) in
      subst (λ (text : List ℕ). HasTaken text p r)
      (ap (λ (was : ScreenValue). chain_text first nexts ++ change was) (sym f.last)
      ∙ sym (text_of_more first nexts next))
      (taken_then (chain_text first nexts) (change prev) p q r f.takes s.takes);
}

-- A statement about each item of a list holds for the item at an index.
pub at_place : {X : Type 0} (P : X → Type 0) (xs : List X) (k : ℕ) (d : X) →
    k < length xs → AllByRecursion P xs → P (get_or xs k d)
at_place P [] k d inside all = absurd (none inside) where
  none : k < 0 → ⊥
  none h = omega (arith, h)
at_place P (x ∷ xs) zero d inside all = all.0
at_place P (x ∷ xs) (suc k) d inside all = at_place P xs k d (omega (arith, inside)) all.1

pub next_fits : (first : ScreenValue) (nexts : List ScreenValue) (k : ℕ) (next : ScreenValue) → k < length nexts
    → next ≡ get_or nexts k next → AllByRecursion (λ screen. SameSize screen.page first.page) nexts
    → SameSize next.page first.page
next_fits first nexts k next inside is size =
    subst (λ (screen : ScreenValue). SameSize screen.page first.page) (sym is)
    (at_place (λ screen. SameSize screen.page first.page) nexts k next inside size)

-- After the screen at the next index is sent, the terminal has received all screens up to that index.
pub followed_next : {S : Type 0} (first : ScreenValue) (nexts : List ScreenValue) (k : ℕ) (prev next : ScreenValue)
    (p q r : ParserValue S) → k < length nexts → next ≡ get_or nexts k next
    → AllByRecursion (λ screen. SameSize screen.page first.page) nexts
    → HasFollowed first (take k nexts) prev p q → SendsNext next prev q r
    → HasFollowed first (take (k + 1) nexts) next p r
followed_next first nexts k prev next p q r inside is size f s =
    subst (λ (xs : List ScreenValue). HasFollowed first xs next p r)
    (ap (λ (x : ScreenValue). take k nexts ++ (x ∷ [])) is ∙ sym (take_more nexts k next inside))
    (followed_more first (take k nexts) prev next p q r f (next_fits first nexts k next inside is size) s)

can_show : (reader first : ScreenValue) → SamePictureSize (display first) (display reader) →
    (screen : ScreenValue) → IsWhole screen → IsSteady (display screen) → SameSize screen.page first.page →
    CanShowOn reader screen
can_show reader first same screen whole steady size =
    let own = same_shown screen first size in
    record {
      sound = whole.sound;
      colored = whole.colored;
      steady = steady;
      size = record { width = own.width ∙ same.width; height = own.height ∙ same.height };
    }

can_show_all : (reader first : ScreenValue) → SamePictureSize (display first) (display reader) → (screens : List ScreenValue) →
    AllByRecursion IsWhole screens → AllByRecursion (λ screen. IsSteady (display screen)) screens →
    AllByRecursion (λ screen. SameSize screen.page first.page) screens → AllByRecursion (CanShowOn reader) screens
can_show_all reader first same [] whole steady size = tt
can_show_all reader first same (x ∷ xs) whole steady size = (
  can_show reader first same x whole.0 steady.0 size.0,
  can_show_all reader first same xs whole.1 steady.1 size.1,
)

pub follows_all : {S : Type 0}
    → ((self : ScreenValue) (nexts : List ScreenValue) (p q : ParserValue S) (calls : List Processing)
    → IsScreen p.screen → IsPlainParser p → CanShowOn p.screen self → AllByRecursion (CanShowOn p.screen) nexts
    → bytes_in calls ≡ chain_text self nexts → FoldsTo Processes p calls q
    → AllByRecursion IsFine calls × ShowsLast p (last_screen self nexts) q)
    → (first : ScreenValue) (nexts : List ScreenValue) (prev : ScreenValue) (p q : ParserValue S)
    → IsScreen p.screen → IsPlainParser p → SamePictureSize (display first) (display p.screen)
    → AllByRecursion (λ screen. SameSize screen.page first.page) nexts
    → AllByRecursion (λ screen. IsSteady (display screen)) (first ∷ nexts) → HasFollowed first nexts prev p q
    → ShowsScreen (last_screen first nexts) q
follows_all law first nexts prev p q is plain same size steady f =
    let own : SameSize first.page first.page = record { width = refl; height = refl } in
    let all = law first nexts p q f.takes.calls is plain (can_show p.screen first same first f.whole.0 steady.0 own)
    (can_show_all p.screen first same nexts f.whole.1 steady.1 size) f.takes.whole f.takes.folds in
    record { plain = all.1.plain; shows = all.1.shows }
