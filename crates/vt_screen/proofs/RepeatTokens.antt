-- The beginnings of controls and sequences, none of which is REP in drawing output.
use Rattle.std.proofs.Common.{◌≡◌, ◌≢◌, ◌⊎◌, inl, inr, ℕ, zero, suc, ◌+◌, ◌/◌, ◌%◌, ◌<◌, ◌≤◌, ◌==◌, ◌&&◌, nat_le}
use Rattle.std.proofs.Common.{nat_lt, not, Bool, true, false, true≢false, List, [], ◌∷◌, ◌++◌, map, decimal, refl, sym}
use Rattle.std.proofs.Common.{ap, subst, ◌∙◌, arith, ◌-◌, ◌*◌, drop, get_or, length, take, ap₂, append_assoc}
use Rattle.std.proofs.Common.{length-append, length-drop, take-add}
use Rattle.std.proofs.lemmas.Bool.{cond_both, cases_lt}
use Rattle.std.proofs.lemmas.Bool.Decides.{nat_tests}
use Rattle.std.specs.Char.{IsScalar, encode_utf8}
use Rattle.std.specs.Fmt.{digit_glyph, digits, digits_onto}
use Rattle.std.specs.List.{AllByRecursion, flat_map, list_all}
use Rattle.std.specs.Prelude.{encode_utf8_all, Some, None, codes}
use Rattle.std.proofs.lemmas.List.{get_or-drop, length-take, length-take-le, take-append-drop, take_more}
use Rattle.std.proofs.Math.Seq.{take-append_seam}
use Rattle.std.specs.Str.Pattern.{FindsCharPrefix}
use Rattle.std.proofs.lemmas.Fmt.{length-decimal-le}
use Rattle.std.proofs.lemmas.Str.{encode_ascii, len_utf8_bounds, length-encode}
use Rattle.vt_cells.specs.Op.{csi, semicolon_list, Hide, bytes_of}
use Rattle.vt_cells.proofs.Glyphs.{columns_of-ascii}
use Rattle.vt_scan.specs.Automaton.{State, Step, Event, Character, CsiDispatch, fresh_step, start, run}
use Rattle.vt_scan.specs.Parameters.{groups_of, number_of, numbers_of, table_of}
use Rattle.vt_scan.specs.Table.{class_of}
use Rattle.vt_scan.specs.Texts.{IsParameterText, back_with}
use Rattle.vt_scan.specs.Internals.{Opens}
use Rattle.vt_scan.proofs.Readback.{read_text, events_then, run-append, read_csi}
use Rattle.vt_screen.specs.Diffs.{diff_controls, diff_finals}
use Rattle.vt_screen.specs.MadeOf.{Characters, Control, IsCharacter, IsMadeOf, IsOneOf, IsPiece, Numbered, Piece}
use Rattle.vt_screen.specs.MadeOf.{drawing_controls, input_controls, piece_text}
use Rattle.vt_screen.specs.Repeating.{HasNoRepeat, repetitions, IsNarrow, copies, repeat_text}
use Rattle.vt_screen.specs.Internals.{BeginsRun, BeginsWithVisibility, Finds, IsFinalAt, KeepsRoom, Skips}
use Rattle.vt_screen.specs.ShortMoves.{IsAsciiCharacter}
use Rattle.vt_screen.specs.declared.repeat.Repeat.{Repeat}
use Rattle.vt_screen.specs.declared.repeats.Skipped.{Skipped}
use Rattle.vt_screen.proofs.RepeatSteps.{keeps_then}
use Rattle.vt_screen.proofs.RepeatRooms.{keeps_attributes, keeps_deleted, keeps_down, keeps_erased_chars}
use Rattle.vt_screen.proofs.RepeatRooms.{keeps_inserted, keeps_left, keeps_lines_deleted, keeps_lines_inserted}
use Rattle.vt_screen.proofs.RepeatRooms.{keeps_narrow, keeps_nothing, keeps_page_erased, keeps_row, keeps_row_erased}
use Rattle.vt_screen.proofs.RepeatRooms.{keeps_up, keeps_visibility}

-- ==== Drawing output contains no REP.

abbrev AreNone : List Event → Type 0
AreNone events = AllByRecursion (λ event. repetitions event ≡ 0) events

none_then : (xs ys : List Event) → AreNone xs → AreNone ys → AreNone (xs ++ ys)
none_then [] ys h k = k
none_then (x ∷ xs) ys h k = (h.0, none_then xs ys h.1 k)

-- Output without REP that ends in ground state.
pub record IsQuiet (text : List ℕ) : Type 0 where
  pub state : (run start text).state ≡ start
  pub none : AreNone (run start text).events

quiet_back : (text : List ℕ) (events : List Event) → run start text ≡ back_with events → AreNone events → IsQuiet text
quiet_back text events e none = record {
  state = ap (λ (s : Step). s.state) e;
  none = subst (λ (s : Step). AreNone s.events) (sym e) none;
}

quiet_then : (a b : List ℕ) → IsQuiet a → IsQuiet b → IsQuiet (a ++ b)
quiet_then a b h k =
    let both : run start (a ++ b) ≡ events_then (run start a).events (run start b) =
    run-append start a b ∙ ap (λ (s : State). events_then (run start a).events (run s b)) h.state in record {
      state = ap (λ (s : Step). s.state) both ∙ k.state;
      none = subst (λ (s : Step). AreNone s.events) (sym both) (none_then (run start a).events (run start b).events h.none k.none);
    }

-- ---- characters

readable : (cs : List ℕ) → AllByRecursion IsCharacter cs → AllByRecursion (λ c. IsScalar c × (0x20 ≤ c)) cs
readable [] h = tt
readable (c ∷ cs) h = ((h.0.0, by_range h.0.1), readable cs h.1) where
  by_range : ((0x20 ≤ c) × (c < 0x7F)) ⊎ (0xA0 ≤ c) → 0x20 ≤ c
  by_range (inl k) = k.0
  by_range (inr k) = omega (arith, k)

characters_none : (cs : List ℕ) → AreNone (map Character cs)
characters_none [] = tt
characters_none (c ∷ cs) = (refl, characters_none cs)

-- ---- control sequences

digit_parameter : (n : ℕ) → (0x30 ≤ digit_glyph false (n % 10)) × (digit_glyph false (n % 10) ≤ 0x3B)
digit_parameter n =
    cond_both (nat_lt (n % 10) 10) (48 + n % 10) (87 + n % 10) (λ (b : ℕ). (0x30 ≤ b) × (b ≤ 0x3B))
    (λ e. let h : n % 10 < 10 = omega arith in (omega (arith, h), omega (arith, h)))
    (λ e. absurd (true≢false (sym (let t : nat_lt (n % 10) 10 ≡ true = grind (arith, nat_tests) in t) ∙ e)))

digits_parameter : (k n : ℕ) (acc : List ℕ) → IsParameterText acc → IsParameterText (digits_onto k 10 false n acc)
digits_parameter zero n acc h = h
digits_parameter (suc k) n acc h =
    let digit = digit_parameter n in
    cond_both (n / 10 == 0) (digit_glyph false (n % 10) ∷ acc)
    (digits_onto k 10 false (n / 10) (digit_glyph false (n % 10) ∷ acc)) IsParameterText
    (λ _. (digit.0, digit.1, h)) (λ _. digits_parameter k (n / 10) (digit_glyph false (n % 10) ∷ acc) (digit.0, digit.1, h))

decimal_parameter : (n : ℕ) → IsParameterText (decimal n)
unfolding digits
decimal_parameter n = digits_parameter 64 n [] tt

parameter_then : (xs ys : List ℕ) → IsParameterText xs → IsParameterText ys → IsParameterText (xs ++ ys)
parameter_then [] ys h k = k
parameter_then (x ∷ xs) ys h k = (h.0, h.1, parameter_then xs ys h.2 k)

pub numbers_parameter : (ns : List ℕ) → IsParameterText (semicolon_list ns)
numbers_parameter [] = tt
numbers_parameter (n ∷ []) = decimal_parameter n
numbers_parameter (n ∷ m ∷ ns) =
    parameter_then (decimal n) (0x3B ∷ semicolon_list (m ∷ ns)) (decimal_parameter n)
    (omega arith, omega arith, numbers_parameter (m ∷ ns))

sequence_none : (ns : List ℕ) (final : ℕ) → 0x40 ≤ final → final ≤ 0x7E → final ≢ 0x62 →
    IsQuiet (piece_text (Numbered ns final))
sequence_none ns final low high other =
    quiet_back (csi (semicolon_list ns) final) (CsiDispatch (table_of (semicolon_list ns)).groups [] final ∷ [])
    (read_csi (semicolon_list ns) final (numbers_parameter ns) low high)
    ((let t : (final == 0x62) ≡ false = grind (arith, nat_tests, other) in rw t refl), tt)

and_first : (a b : Bool) → (a && b) ≡ true → a ≡ true
and_first true b e = refl
and_first false b e = e

and_second : (a b : Bool) → (a && b) ≡ true → b ≡ true
and_second true b e = e
and_second false b e = absurd (true≢false (sym e))

-- The byte ends a control sequence other than REP.
record IsOtherFinal (final : ℕ) : Type 0 where
  low : 0x40 ≤ final
  high : final ≤ 0x7E
  other : final ≢ 0x62

is_other_final : ℕ → Bool
is_other_final f = nat_le 0x40 f && (nat_le f 0x7E && not (f == 0x62))

other_by_test : (f : ℕ) → is_other_final f ≡ true → IsOtherFinal f
unfolding is_other_final
other_by_test f t = record {
  low = grind (arith, nat_tests, t);
  high = grind (arith, nat_tests, t);
  other = λ e. grind (arith, nat_tests, t, e);
}

other_finals : (finals : List ℕ) → list_all is_other_final finals ≡ true → (final : ℕ) → IsOneOf final finals → IsOtherFinal final
other_finals [] all final is = absurd is
other_finals (f ∷ finals) all final (inl e) = subst IsOtherFinal (sym e) (other_by_test f (and_first _ _ all))
other_finals (f ∷ finals) all final (inr is) = other_finals finals (and_second _ _ all) final is

all_other : (scroll : Bool) → list_all is_other_final (diff_finals scroll) ≡ true
unfolding is_other_final
all_other true = refl
all_other false = refl

control_none : (bytes : List ℕ) → IsOneOf bytes drawing_controls → IsQuiet bytes
unfolding fresh_step class_of table_of groups_of numbers_of number_of
control_none bytes (inl e) = subst IsQuiet (sym e) (record { state = refl; none = (refl, (refl, tt)) })
control_none bytes (inr (inl e)) = subst IsQuiet (sym e) (record { state = refl; none = (refl, tt) })
control_none bytes (inr (inr (inl e))) = subst IsQuiet (sym e) (record { state = refl; none = (refl, tt) })
control_none bytes (inr (inr (inr (inl e)))) = subst IsQuiet (sym e) (record { state = refl; none = (refl, tt) })
control_none bytes (inr (inr (inr (inr (inl e))))) = subst IsQuiet (sym e) (record { state = refl; none = (refl, tt) })
control_none bytes (inr (inr (inr (inr (inr (inl e)))))) = subst IsQuiet (sym e) (record { state = refl; none = (refl, tt) })
control_none bytes (inr (inr (inr (inr (inr (inr (inl e))))))) =
    subst IsQuiet (sym e) (record { state = refl; none = (refl, tt) })
control_none bytes (inr (inr (inr (inr (inr (inr (inr (inl e)))))))) =
    subst IsQuiet (sym e) (record { state = refl; none = (refl, tt) })
control_none bytes (inr (inr (inr (inr (inr (inr (inr (inr (inl e))))))))) =
    subst IsQuiet (sym e) (record { state = refl; none = (refl, tt) })
control_none bytes (inr (inr (inr (inr (inr (inr (inr (inr (inr none))))))))) = absurd none

control_of : (scroll : Bool) (bytes : List ℕ) → IsOneOf bytes (diff_controls scroll) → IsQuiet bytes
unfolding fresh_step class_of
control_of false bytes is = control_none bytes is
control_of true bytes (inl e) = subst IsQuiet (sym e) (record { state = refl; none = (refl, tt) })
control_of true bytes (inr (inl e)) = subst IsQuiet (sym e) (record { state = refl; none = (refl, tt) })
control_of true bytes (inr (inr is)) = control_none bytes is

-- Output that consists of characters, control sequences other than REP, and fixed sequences without REP.
module _ (finals : List ℕ) (controls : List (List ℕ)) (others : list_all is_other_final finals ≡ true)
    (quiet : (bytes : List ℕ) → IsOneOf bytes controls → IsQuiet bytes) where
  piece_quiet : (p : Piece) → IsPiece finals controls p → IsQuiet (piece_text p)
  piece_quiet (Characters cs) is =
      quiet_back (encode_utf8_all cs) (map Character cs) (read_text cs (readable cs is)) (characters_none cs)
  piece_quiet (Numbered ns final) is =
      let other = other_finals finals others final is in
      sequence_none ns final other.low other.high other.other
  piece_quiet (Control bytes) is = quiet bytes is

  pieces_quiet : (ps : List Piece) → AllByRecursion (IsPiece finals controls) ps → IsQuiet (flat_map piece_text ps)
  pieces_quiet [] is = record { state = refl; none = tt }
  pieces_quiet (p ∷ ps) is =
      quiet_then (piece_text p) (flat_map piece_text ps) (piece_quiet p is.0) (pieces_quiet ps is.1)

  made_quiet : (text : List ℕ) → IsMadeOf finals controls text → HasNoRepeat text
  made_quiet text made = (subst IsQuiet (sym made.spelled) (pieces_quiet made.pieces made.are_pieces)).none

pub piece_none : (scroll : Bool) (p : Piece) → IsPiece (diff_finals scroll) (diff_controls scroll) p → IsQuiet (piece_text p)
piece_none scroll = piece_quiet (diff_finals scroll) (diff_controls scroll) (all_other scroll) (control_of scroll)

pub made_none : (scroll : Bool) (text : List ℕ) → IsMadeOf (diff_finals scroll) (diff_controls scroll) text → HasNoRepeat text
made_none scroll = made_quiet (diff_finals scroll) (diff_controls scroll) (all_other scroll) (control_of scroll)

-- ---- output that sets input modes

listed : (texts : List (List ℕ)) → AllByRecursion IsQuiet texts → (bytes : List ℕ) → IsOneOf bytes texts → IsQuiet bytes
listed [] all bytes is = absurd is
listed (text ∷ texts) all bytes (inl e) = subst IsQuiet (sym e) all.0
listed (text ∷ texts) all bytes (inr is) = listed texts all.1 bytes is

inputs_quiet : AllByRecursion IsQuiet input_controls
unfolding fresh_step class_of table_of groups_of numbers_of number_of
inputs_quiet = (record { state = refl; none = (refl, tt) }, (record { state = refl; none = (refl, tt) }, (record { state = refl; none = (refl, tt) }, (record { state = refl; none = (refl, tt) }, (record { state = refl; none = (refl, tt) }, (record { state = refl; none = (refl, tt) }, (record { state = refl; none = (refl, tt) }, (record { state = refl; none = (refl, tt) }, (record { state = refl; none = (refl, tt) }, (record { state = refl; none = (refl, tt) }, (record { state = refl; none = (refl, tt) }, (record { state = refl; none = (refl, tt) }, (record { state = refl; none = (refl, tt) }, (record { state = refl; none = (refl, tt) }, (record { state = refl; none = (refl, tt) }, (record { state = refl; none = (refl, tt) }, (record { state = refl; none = (refl, tt) }, (record { state = refl; none = (refl, tt) }, (record { state = refl; none = (refl, tt) }, (record { state = refl; none = (refl, tt) }, (record { state = refl; none = (refl, tt) }, (record { state = refl; none = (refl, tt) }, (record { state = refl; none = (refl, tt) }, (record { state = refl; none = (refl, tt) }, (record { state = refl; none = (refl, tt) }, tt)))))))))))))))))))))))))

pub input_none : (text : List ℕ) → IsMadeOf [] input_controls text → HasNoRepeat text
input_none = made_quiet [] input_controls refl (listed input_controls inputs_quiet)

-- ==== The beginning of bytes that are a control or a sequence.

one_taken : (bytes : List ℕ) (b : ℕ) → 0 < length bytes → get_or bytes 0 0 ≡ b → take 1 bytes ≡ b ∷ []
one_taken [] b h e = absurd (omega (arith, h))
one_taken (x ∷ bytes) b h e = ap (λ (k : ℕ). k ∷ []) e

two_taken : (bytes : List ℕ) (a b : ℕ) → 2 ≤ length bytes → get_or bytes 0 0 ≡ a → get_or bytes 1 0 ≡ b →
    take 2 bytes ≡ a ∷ b ∷ []
two_taken [] a b h e f = absurd (omega (arith, h))
two_taken (x ∷ []) a b h e f = absurd (omega (arith, h))
two_taken (x ∷ y ∷ bytes) a b h e f = ap₂ (λ (k n : ℕ). k ∷ n ∷ []) e f

-- A byte that is skipped.
pub skips_one : (width room after : ℕ) (bytes : List ℕ) (b : ℕ) → 0 < length bytes → get_or bytes 0 0 ≡ b →
    KeepsRoom width room after (b ∷ []) → Skips width room bytes (record { len = 1; room = after })
skips_one width room after bytes b h e keeps = record {
  progress = omega arith;
  inside = omega (arith, h);
  keeps = subst (KeepsRoom width room after) (sym (one_taken bytes b h e)) keeps;
}

-- A sequence of two bytes that is skipped.
pub skips_two : (width room after : ℕ) (bytes : List ℕ) (a b : ℕ) → 2 ≤ length bytes → get_or bytes 0 0 ≡ a →
    get_or bytes 1 0 ≡ b → KeepsRoom width room after (a ∷ b ∷ []) → Skips width room bytes (record { len = 2; room = after })
skips_two width room after bytes a b h e f keeps = record {
  progress = omega arith;
  inside = h;
  keeps = subst (KeepsRoom width room after) (sym (two_taken bytes a b h e f)) keeps;
}

pub skips_visibility : (width room : ℕ) (bytes : List ℕ) → BeginsWithVisibility bytes →
    Skips width room bytes (record { len = 6; room = room })
skips_visibility width room bytes begins = record { progress = omega arith; inside = begins.inside; keeps = by_which begins.is }
  where
    by_which : (take 6 bytes ≡ bytes_of (Hide false)) ⊎ (take 6 bytes ≡ bytes_of (Hide true)) →
        KeepsRoom width room room (take 6 bytes)
    by_which (inl e) = subst (KeepsRoom width room room) (sym e) (keeps_visibility width room false)
    by_which (inr e) = subst (KeepsRoom width room room) (sym e) (keeps_visibility width room true)

pub sequence_taken : (bytes : List ℕ) (count : ℕ) → Opens bytes → 2 + count < length bytes →
    take (2 + count + 1) bytes ≡ csi (take count (drop 2 bytes)) (get_or bytes (2 + count) 0)
sequence_taken bytes count opens h =
    take_more bytes (2 + count) 0 h
    ∙ ap (λ (t : List ℕ). t ++ get_or bytes (2 + count) 0 ∷ []) (front bytes opens)
  where
    front : (bytes : List ℕ) → Opens bytes → take (2 + count) bytes ≡ 0x1B ∷ 0x5B ∷ take count (drop 2 bytes)
    front [] opens = absurd (let h = opens.long in omega (arith, h))
    front (x ∷ []) opens = absurd (let h = opens.long in omega (arith, h))
    front (x ∷ y ∷ bytes) opens =
        ap (λ (n : ℕ). take n (x ∷ y ∷ bytes)) (let e : 2 + count ≡ suc (suc count) = omega arith in e)
        ∙ ap₂ (λ (k n : ℕ). k ∷ n ∷ take count bytes) opens.first opens.second

-- A control sequence that is skipped.
pub skips_sequence : (width room after : ℕ) (bytes : List ℕ) (count : ℕ) → Opens bytes → 2 + count < length bytes →
    KeepsRoom width room after (csi (take count (drop 2 bytes)) (get_or bytes (2 + count) 0)) →
    Skips width room bytes (record { len = 2 + count + 1; room = after })
skips_sequence width room after bytes count opens h keeps = record {
  progress = omega arith;
  inside = omega (arith, h);
  keeps = subst (KeepsRoom width room after) (sym (sequence_taken bytes count opens h)) keeps;
}

-- A control sequence that leaves the cursor in its column or moves it left.
pub keeps_final : (width room : ℕ) (text : List ℕ) (final : ℕ) → IsParameterText text →
    IsOneOf final (codes "mJKXABDd@PLM") → KeepsRoom width room room (csi text final)
keeps_final width room text final is one = by_final one where
  use_final : (f : ℕ) → final ≡ f → KeepsRoom width room room (csi text f) → KeepsRoom width room room (csi text final)
  use_final f e keeps = subst (λ (k : ℕ). KeepsRoom width room room (csi text k)) (sym e) keeps

  by_final : IsOneOf final (codes "mJKXABDd@PLM") → KeepsRoom width room room (csi text final)
  by_final (inl e) = use_final 0x6D e (keeps_attributes width room text is)
  by_final (inr (inl e)) = use_final 0x4A e (keeps_page_erased width room text is)
  by_final (inr (inr (inl e))) = use_final 0x4B e (keeps_row_erased width room text is)
  by_final (inr (inr (inr (inl e)))) = use_final 0x58 e (keeps_erased_chars width room text is)
  by_final (inr (inr (inr (inr (inl e))))) = use_final 0x41 e (keeps_up width room text is)
  by_final (inr (inr (inr (inr (inr (inl e)))))) = use_final 0x42 e (keeps_down width room text is)
  by_final (inr (inr (inr (inr (inr (inr (inl e))))))) = use_final 0x44 e (keeps_left width room text is)
  by_final (inr (inr (inr (inr (inr (inr (inr (inl e)))))))) = use_final 0x64 e (keeps_row width room text is)
  by_final (inr (inr (inr (inr (inr (inr (inr (inr (inl e))))))))) = use_final 0x40 e (keeps_inserted width room text is)
  by_final (inr (inr (inr (inr (inr (inr (inr (inr (inr (inl e)))))))))) = use_final 0x50 e (keeps_deleted width room text is)
  by_final (inr (inr (inr (inr (inr (inr (inr (inr (inr (inr (inl e))))))))))) =
      use_final 0x4C e (keeps_lines_inserted width room text is)
  by_final (inr (inr (inr (inr (inr (inr (inr (inr (inr (inr (inr (inl e)))))))))))) =
      use_final 0x4D e (keeps_lines_deleted width room text is)
  by_final (inr (inr (inr (inr (inr (inr (inr (inr (inr (inr (inr (inr none)))))))))))) = absurd none

-- One parameter byte more.
pub parameter_more : (last : ℕ) (bytes : List ℕ) → 2 ≤ last → last < length bytes → 0x30 ≤ get_or bytes last 0 →
    get_or bytes last 0 ≤ 0x3B → IsParameterText (take (last - 2) (drop 2 bytes)) →
    IsParameterText (take (last + 1 - 2) (drop 2 bytes))
parameter_more last bytes past inside low high is =
    let size = length-drop 2 bytes in
    let more : last + 1 - 2 ≡ last - 2 + 1 = omega (arith, past) in
    let back : 2 + (last - 2) ≡ last = omega (arith, past) in
    let here : get_or (drop 2 bytes) (last - 2) 0 ≡ get_or bytes last 0 =
    get_or-drop 2 bytes (last - 2) 0 ∙ ap (λ (k : ℕ). get_or bytes k 0) back in
    subst (λ (n : ℕ). IsParameterText (take n (drop 2 bytes))) (sym more)
    (subst IsParameterText (sym (take_more (drop 2 bytes) (last - 2) 0 (omega (arith, size, inside, past))))
    (parameter_end (take (last - 2) (drop 2 bytes)) (get_or (drop 2 bytes) (last - 2) 0) is
    (subst (λ (b : ℕ). 0x30 ≤ b) (sym here) low) (subst (λ (b : ℕ). b ≤ 0x3B) (sym here) high)))
  where
    parameter_end : (xs : List ℕ) (b : ℕ) → IsParameterText xs → 0x30 ≤ b → b ≤ 0x3B → IsParameterText (xs ++ b ∷ [])
    parameter_end [] b is low high = (low, high, tt)
    parameter_end (x ∷ xs) b is low high = (is.0, is.1, parameter_end xs b is.2 low high)

-- A control sequence that is skipped and leaves the cursor in its column or moves it left.
pub skips_final : (width room : ℕ) (bytes : List ℕ) (last : ℕ) → Opens bytes → IsFinalAt bytes last →
    IsOneOf (get_or bytes last 0) (codes "mJKXABDd@PLM") → Skips width room bytes (record { len = last + 1; room = room })
skips_final width room bytes last opens is one =
    let past = is.past in
    let inside = is.inside in
    let back : 2 + (last - 2) ≡ last = omega (arith, past) in
    subst (λ (k : ℕ). Skips width room bytes (record { len = k + 1; room = room })) back
    (skips_sequence width room room bytes (last - 2) opens (omega (arith, past, inside))
    (subst (λ (k : ℕ). KeepsRoom width room room (csi (take (last - 2) (drop 2 bytes)) (get_or bytes k 0))) (sym back)
    (keeps_final width room (take (last - 2) (drop 2 bytes)) (get_or bytes last 0) is.parameters one)))

-- ---- characters that are skipped

pub ascii_narrow : (c : ℕ) → IsAsciiCharacter c → IsNarrow c
ascii_narrow c (low, high) = record {
  drawn = record {
    scalar = grind (arith, nat_tests);
    shown = λ e. let met : Some 1 ≡ None = sym (columns_of-ascii c low high) ∙ e in absurd cc;
    reported = λ e. absurd (omega (arith, high, e));
  };
  columns = columns_of-ascii c low high;
}

ascii_keeps : (width room b : ℕ) → IsAsciiCharacter b → KeepsRoom width room (room - 1) (b ∷ [])
ascii_keeps width room b is =
    let high = is.1 in
    subst (KeepsRoom width room (room - 1)) (encode_ascii b (omega arith)) (keeps_narrow width room b (ascii_narrow b is))

ascii_all : (width room : ℕ) (text : List ℕ) → AllByRecursion IsAsciiCharacter text →
    KeepsRoom width room (room - length text) text
ascii_all width room [] is =
    let same : room - 0 ≡ room = omega arith in
    subst (λ (k : ℕ). KeepsRoom width room k []) (sym same) (keeps_nothing width room)
ascii_all width room (b ∷ text) is =
    let fewer : room - 1 - length text ≡ room - suc (length text) = omega arith in
    subst (λ (k : ℕ). KeepsRoom width room k (b ∷ text)) fewer
    (keeps_then width room (room - 1) (room - 1 - length text) (b ∷ []) text (ascii_keeps width room b is.0)
    (ascii_all width (room - 1) text is.1))

-- Printable ASCII characters that are skipped.
pub skips_ascii : (width room after more : ℕ) (bytes : List ℕ) → 0 < length bytes → IsAsciiCharacter (get_or bytes 0 0) →
    more ≤ length (drop 1 bytes) → AllByRecursion IsAsciiCharacter (take more (drop 1 bytes)) → after ≡ room - (1 + more) →
    Skips width room bytes (record { len = 1 + more; room = after })
skips_ascii width room after more [] some first inside all e = absurd (omega (arith, some))
skips_ascii width room after more (b ∷ bytes) some first inside all e =
    let long = length-take-le more bytes inside in
    let one : 1 + more ≡ suc more = omega arith in
    let left : room - suc (length (take more bytes)) ≡ after = omega (arith, long, e) in record {
      progress = omega arith;
      inside = omega (arith, inside);
      keeps = subst (λ (n : ℕ). KeepsRoom width room after (take n (b ∷ bytes))) (sym one)
          (subst (λ (k : ℕ). KeepsRoom width room k (b ∷ take more bytes)) left
          (ascii_all width room (b ∷ take more bytes) (first, all)));
    }

-- A character that is skipped.
pub skips_character : (width room after len c : ℕ) (text : List ℕ) → length (encode_utf8 c) ≡ len →
    take (length (encode_utf8 c)) text ≡ encode_utf8 c → KeepsRoom width room after (encode_utf8 c) →
    Skips width room text (record { len = len; room = after })
skips_character width room after len c text long e keeps =
    let some = len_utf8_bounds c in
    let size = length-encode c in
    let taken = ap length e in
    let within = length-take (length (encode_utf8 c)) text in record {
      progress = omega (arith, some, size, long);
      inside = omega (arith, taken, within, long);
      keeps = subst (KeepsRoom width room after) (sym (ap (λ (n : ℕ). take n text) (sym long) ∙ e)) keeps;
    }

-- ---- runs

copies_long : (k n c : ℕ) → k ≤ length (encode_utf8 c) → n * k ≤ length (copies n c)
copies_long k zero c h = omega arith
copies_long k (suc n) c h =
    let rest = copies_long k n c h in
    let both = length-append (encode_utf8 c) (copies n c) in
    omega (arith, rest, both, h)

repeat_length : (n : ℕ) → length (repeat_text n) ≡ 2 + (length (decimal n) + 1)
repeat_length n = let h = length-append (decimal n) (0x62 ∷ []) in omega (arith, h)

-- REP is shorter than the characters if there are enough of them.
pub repeat_shorter : (n k c : ℕ) → k ≤ length (encode_utf8 c) → ((5 ≤ n) × (1 ≤ k)) ⊎ (((3 ≤ n) × (2 ≤ k)) ⊎ ((2 ≤ n) × (3 ≤ k))) →
    n < 65536 → length (repeat_text n) < length (copies n c)
repeat_shorter n k c long many high = by_size (cases_lt n 10) (cases_lt n 100) where
  whole : length (repeat_text n) ≡ 2 + (length (decimal n) + 1)
  whole = repeat_length n

  one : 1 ≤ length (encode_utf8 c)
  one = let some = len_utf8_bounds c in let e = length-encode c in omega (arith, some, e)

  ones : n * 1 ≤ length (copies n c)
  ones = copies_long 1 n c one

  few : length (decimal n) ≤ 1 →
      ((5 ≤ n) × (1 ≤ k)) ⊎ (((3 ≤ n) × (2 ≤ k)) ⊎ ((2 ≤ n) × (3 ≤ k))) → length (repeat_text n) < length (copies n c)
  few d (inl h) = let m = h.0 in omega (arith, whole, d, ones, m)
  few d (inr (inl h)) =
      let m = h.0 in
      let l = h.1 in
      let twos = copies_long 2 n c (omega (arith, long, l)) in omega (arith, whole, d, twos, m)
  few d (inr (inr h)) =
      let m = h.0 in
      let l = h.1 in
      let threes = copies_long 3 n c (omega (arith, long, l)) in omega (arith, whole, d, threes, m)

  by_size : (n < 10) ⊎ (10 ≤ n) → (n < 100) ⊎ (100 ≤ n) → length (repeat_text n) < length (copies n c)
  by_size (inl less) h = few (length-decimal-le 1 n (omega arith) (omega arith) (omega arith)) many
  by_size (inr some) (inl less) =
      let d = length-decimal-le 2 n (omega arith) (omega arith) (omega arith) in omega (arith, whole, d, ones)
  by_size (inr some) (inr more) =
      let d = length-decimal-le 5 n (omega arith) (omega arith) (omega arith) in omega (arith, whole, d, ones)

-- One copy more of a character.
pub copies_more : (n c : ℕ) (rest : List ℕ) → copies n c ++ (encode_utf8 c ++ rest) ≡ copies (suc n) c ++ rest
copies_more zero c rest = sym (append_assoc (encode_utf8 c) [] rest)
copies_more (suc n) c rest =
    append_assoc (encode_utf8 c) (copies n c) (encode_utf8 c ++ rest)
    ∙ ap (λ (t : List ℕ). encode_utf8 c ++ t) (copies_more n c rest)
    ∙ sym (append_assoc (encode_utf8 c) (copies (suc n) c) rest)

-- The text after a character at its beginning.
pub stripped : (c : ℕ) (text tail : List ℕ) → (n : ℕ) × FindsCharPrefix c text (Some n) × (tail ≡ drop n text)
    × (length tail + n ≡ length text) → text ≡ encode_utf8 c ++ tail
stripped c text tail (n, at, e, long) = at.split ∙ ap (λ (t : List ℕ). encode_utf8 c ++ t) (sym e)

-- A run that begins after text whose room is known.
pub finds_run : (repeat : Repeat) (width room left at count after : ℕ) (text rest first front back : List ℕ) →
    rest ≡ drop at text → KeepsRoom width room left (take at text) → BeginsRun repeat left rest first count after back →
    front ≡ take (at + length first) text → Finds repeat width room text front count after back
finds_run repeat width room left at count after text rest first front back e keeps is whole = record {
  before = take at text;
  character = is.character;
  narrow = is.narrow;
  repeatable = is.repeatable;
  whole = sym (take-append-drop at text) ∙ ap (λ (t : List ℕ). take at text ++ t) (sym e ∙ is.whole);
  first =
      whole
      ∙ take-add at (length first) text
      ∙ ap (λ (t : List ℕ). take at text ++ t) (ap (take (length first)) (sym e ∙ is.whole) ∙ begins)
      ∙ ap (λ (t : List ℕ). take at text ++ t) is.first;
  keeps = subst (λ (k : ℕ). KeepsRoom width room k (take at text)) (sym is.room_is) keeps;
  shorter = is.shorter;
  fits = is.fits;
  utf8 = is.utf8;
  apart = is.apart;
}
  where
    begins : take (length first) (copies (suc count) is.character ++ back) ≡ first
    begins =
        ap (take (length first)) (append_assoc (encode_utf8 is.character) (copies count is.character) back)
        ∙ ap (λ (t : List ℕ). take (length first) (t ++ (copies count is.character ++ back))) (sym is.first)
        ∙ take-append_seam first (copies count is.character ++ back)

-- A skipped part after bytes whose room is known.
pub skipped_more : (width room left at : ℕ) (bytes rest : List ℕ) (skipped : Skipped) → rest ≡ drop at bytes →
    at ≤ length bytes → KeepsRoom width room left (take at bytes) → Skips width left rest skipped →
    (at + skipped.len ≤ length bytes) × KeepsRoom width room skipped.room (take (at + skipped.len) bytes)
skipped_more width room left at bytes rest skipped e inside keeps skips =
    let length_is : length rest ≡ length bytes - at = ap length e ∙ length-drop at bytes in
    let here = skips.inside in (
      omega (arith, here, length_is, inside),
      subst (KeepsRoom width room skipped.room)
          (sym (take-add at skipped.len bytes))
          (keeps_then width room left skipped.room (take at bytes) (take skipped.len (drop at bytes)) keeps
          (subst (λ (xs : List ℕ). KeepsRoom width left skipped.room (take skipped.len xs)) e skips.keeps)),
    )
