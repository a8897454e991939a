-- Every lawful terminal displays a screen after reading the screen's portable redraw, or a portable diff to it.
use Rattle.std.proofs.Common.{◌≡◌, ◌∙◌, ℕ, List, [], ◌∷◌, ◌++◌, length, true, false, ap, refl, subst, sym}
use Rattle.std.specs.List.{AllByRecursion}
use Rattle.std.specs.Prelude.{Result, Ok, Err, String, string_bytes, map}
use Rattle.vt_grid.specs.Page.{SameSize}
use Rattle.vt_redraw.specs.Picture.{Picture}
use Rattle.vt_redraw.specs.Redraw.{last_picture}
use Rattle.vt_redraw.specs.Steady.{IsSteady}
use Rattle.vt_redraw.specs.declared.form.Form.TheVariants.{Portable}
use Rattle.vt_screen.specs.Chain.{last_screen}
use Rattle.vt_screen.specs.Diffs.{IsDiffWith}
use Rattle.vt_screen.specs.Screen.{IsColored, IsScreen, ScreenValue}
use Rattle.vt_screen.specs.Shown.{display, display_change_in, shown_text_in}
use Rattle.vt_screen.specs.TextResults.{IfText}
use Rattle.vt_screen.specs.declared.repeat.Repeat.TheVariants.{Never}
use Rattle.vt_screen.proofs.Shown.{same_shown, shown_colored, shown_is}
use Rattle.vt_terminals.specs.BlackBox.{BlackBox, CanShow, IsLawful, ShowsAfter, portable_changes}
use Rattle.vt_terminals.specs.Room.{HasRoom, IsPlaced}
use Rattle.vt_terminals.specs.Terminal.{Positions}
use Rattle.vt_terminals.proofs.Boxes.{box_chain_shows, box_difference_shows, box_redraw_shows}
use Rattle.vt_everywhere.specs.Chains.{CanShowScreen, portable_texts}

-- The picture of a screen that can be displayed can be displayed.
pub picture_shows : (box : BlackBox) (near : Positions) (screen : ScreenValue) → CanShowScreen box near screen →
    CanShow box near (display screen)
picture_shows box near screen can = record {
  sound = shown_is screen can.sound;
  colored = shown_colored screen can.sound can.colored;
  steady = can.steady;
  room = can.room;
  width = can.width;
  height = can.height;
}

if_text : {A E : Type 0} (result : Result (String A) E) (P Q : List ℕ → Type 0) → ((text : List ℕ) → P text → Q text) →
    IfText result P → IfText result Q
if_text (Ok text) P Q f h = f (string_bytes text) h
if_text (Err error) P Q f h = h

pub shows_text : {A E : Type 0} (result : Result (String A) E) (screen : ScreenValue) → IsScreen screen →
    IsColored screen → IfText result (λ text. text ≡ shown_text_in Portable screen) → (near : Positions) →
    IsSteady (display screen) → HasRoom near (display screen) →
    IfText result (λ text. (box : BlackBox) → IsLawful box → (display screen).width ≡ box.width →
    length (display screen).rows ≡ box.height → (before : List ℕ) → box.is_ready before ≡ true →
    ShowsAfter box near (display screen) (before ++ text))
shows_text result screen is colored text near steady room =
    if_text result (λ text. text ≡ shown_text_in Portable screen)
    (λ text. (box : BlackBox) → IsLawful box → (display screen).width ≡ box.width →
    length (display screen).rows ≡ box.height → (before : List ℕ) → box.is_ready before ≡ true →
    ShowsAfter box near (display screen) (before ++ text))
    (λ text e box lawful wide tall before ready.
    let can : CanShowScreen box near screen = record {
      sound = is;
      colored = colored;
      steady = steady;
      room = room;
      width = wide;
      height = tall;
    } in
    subst (λ (z : List ℕ). ShowsAfter box near (display screen) (before ++ z)) (sym e)
    (box_redraw_shows box lawful near (display screen) before (picture_shows box near screen can) ready)) text

pub shows_diff : {A E : Type 0} (result : Result (String A) E) (screen prev : ScreenValue) → IsScreen screen →
    IsColored screen → IsScreen prev → IsColored prev → SameSize screen.page prev.page →
    IfText result (IsDiffWith (record { scroll = false; repeat = Never; portable = true }) prev screen) →
    (near : Positions) → IsSteady (display screen) → HasRoom near (display screen) →
    IsPlaced (display prev) →
    IfText result (λ text. (box : BlackBox) → IsLawful box → (display screen).width ≡ box.width →
    length (display screen).rows ≡ box.height → (before : List ℕ) → ShowsAfter box near (display prev) before →
    ShowsAfter box near (display screen) (before ++ text))
shows_diff result screen prev is colored other other_colored size text near steady room flat =
    if_text result (IsDiffWith (record { scroll = false; repeat = Never; portable = true }) prev screen)
    (λ text. (box : BlackBox) → IsLawful box → (display screen).width ≡ box.width →
    length (display screen).rows ≡ box.height → (before : List ℕ) → ShowsAfter box near (display prev) before →
    ShowsAfter box near (display screen) (before ++ text))
    (λ text d box lawful wide tall before shows.
    let can : CanShowScreen box near screen = record {
      sound = is;
      colored = colored;
      steady = steady;
      room = room;
      width = wide;
      height = tall;
    } in
    subst (λ (z : List ℕ). ShowsAfter box near (display screen) (before ++ z)) (sym (d.repeats ∙ d.diff))
    (box_difference_shows box lawful near (display screen) (display prev) before (picture_shows box near screen can)
    (shown_is prev other) (shown_colored prev other other_colored).attrs (same_shown screen prev size) flat shows)) text

-- ==== Chains

all_show : (box : BlackBox) (near : Positions) (screens : List ScreenValue) →
    AllByRecursion (CanShowScreen box near) screens → AllByRecursion (CanShow box near) (map display screens)
all_show box near [] all = tt
all_show box near (x ∷ xs) all = (picture_shows box near x all.0, all_show box near xs all.1)

texts_are : (prev : ScreenValue) (screens : List ScreenValue) →
    portable_changes (display prev) (map display screens) ≡ portable_texts prev screens
texts_are prev [] = refl
texts_are prev (x ∷ xs) = ap (λ (z : List ℕ). display_change_in Portable prev x ++ z) (texts_are x xs)

last_is : (self : ScreenValue) (screens : List ScreenValue) →
    last_picture (display self) (map display screens) ≡ display (last_screen self screens)
last_is self [] = refl
last_is self (x ∷ xs) = last_is x xs

pub chain_everywhere : (box : BlackBox) → IsLawful box → (near : Positions) → (self : ScreenValue) →
    (nexts : List ScreenValue) → (before : List ℕ) → CanShowScreen box near self →
    AllByRecursion (CanShowScreen box near) nexts → box.is_ready before ≡ true →
    ShowsAfter box near (display (last_screen self nexts))
    (before ++ (shown_text_in Portable self ++ portable_texts self nexts))
chain_everywhere box lawful near self nexts before can all ready =
    subst (λ (p : Picture). ShowsAfter box near p (before ++ (shown_text_in Portable self ++ portable_texts self
    nexts)))
    (last_is self nexts)
    (subst (λ (z : List ℕ). ShowsAfter box near (last_picture (display self) (map display nexts))
    (before ++ (shown_text_in Portable self ++ z))) (texts_are self nexts)
    (box_chain_shows box lawful near (display self) (map display nexts) before (picture_shows box near self can)
    (all_show box near nexts all) ready))
