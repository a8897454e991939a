use Rattle.std.proofs.Common.{◌≡◌, ℕ, List, ◌-◌, ◌⊎◌, inl, inr, ◌∙◌, ap, get_or, sym, subst}
use Rattle.std.specs.Prelude.{IfSome, Option, Some, None}
use Rattle.vt_screen.specs.Internals.{Skips}
use Rattle.vt_screen.specs.declared.repeats.Skipped.{Skipped}
use Rattle.vt_screen.proofs.RepeatTokens.{skips_one}
use Rattle.vt_screen.proofs.RepeatRooms.{keeps_back, keeps_feed, keeps_return, keeps_tab}
use Rattle.vt_screen.proofs.repeats.skip.Goals as goal

first_byte : (bytes text : List ℕ) → bytes ≡ text → (b : ℕ) → get_or bytes 0 0 ≡ b → get_or text 0 0 ≡ b
first_byte bytes text e b is = ap (λ (xs : List ℕ). get_or xs 0 0) (sym e) ∙ is

pub returns-in-13 : goal.returns-in-13
returns-in-13 c =
    skips_one c.args.cols c.args.room c.args.cols c.args.text.now 0x0D c.requires
    (first_byte c.as_bytes-bytes.result.now c.args.text.now c.as_bytes-bytes.ensures.value 0x0D c.in-13.is)
    (keeps_return c.args.cols c.args.room)

pub returns-in-9 : goal.returns-in-9
returns-in-9 c =
    subst (λ (room : ℕ). Skips c.args.cols c.args.room c.args.text.now (record { len = 1; room = room }))
    (sym c.saturating_sub.ensures)
    (skips_one c.args.cols c.args.room (c.args.room - 8) c.args.text.now 0x09 c.requires
    (first_byte c.as_bytes-bytes.result.now c.args.text.now c.as_bytes-bytes.ensures.value 0x09 c.in-9.is)
    (keeps_tab c.args.cols c.args.room))

pub returns-in-10 : goal.returns-in-10
returns-in-10 c =
    by_which c.in-10.is
  where
    at : (b : ℕ) → get_or c.as_bytes-bytes.result.now 0 0 ≡ b → get_or c.args.text.now 0 0 ≡ b
    at = first_byte c.as_bytes-bytes.result.now c.args.text.now c.as_bytes-bytes.ensures.value

    by_which : (get_or c.as_bytes-bytes.result.now 0 0 ≡ 8) ⊎ (get_or c.as_bytes-bytes.result.now 0 0 ≡ 10) →
        Skips c.args.cols c.args.room c.args.text.now (record { len = 1; room = c.args.room })
    by_which (inl e) =
        skips_one c.args.cols c.args.room c.args.room c.args.text.now 8 c.requires (at 8 e) (keeps_back c.args.cols c.args.room)
    by_which (inr e) =
        skips_one c.args.cols c.args.room c.args.room c.args.text.now 10 c.requires (at 10 e) (keeps_feed c.args.cols c.args.room)

pub returns-in-32-to-126 : goal.returns-in-32-to-126
returns-in-32-to-126 c =
    subst (λ (xs : List ℕ). Skips c.args.cols c.args.room xs c.skip_ascii.result) c.as_bytes-bytes.ensures.value
    (c.skip_ascii.ensures c.args.cols)

any_width : (o : Option Skipped) (width room : ℕ) (text : List ℕ) →
    IfSome o (λ skipped. (cols : ℕ) → Skips cols room text skipped) → IfSome o (Skips width room text)
any_width None width room text h = tt
any_width (Some skipped) width room text h = h width

pub returns-in_default : goal.returns-in_default
returns-in_default c = any_width c.skip_character.result c.args.cols c.args.room c.args.text.now c.skip_character.ensures
