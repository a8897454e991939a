-- Output made of listed elements contains only their bytes, and ESC only before the bytes that may follow it.
use Rattle.std.proofs.Common.{◌≡◌, ◌⊎◌, inl, inr, ℕ, zero, suc, ◌+◌, ◌/◌, ◌%◌, ◌<◌, ◌≤◌, ◌==◌, ◌&&◌, nat_le, nat_lt}
use Rattle.std.proofs.Common.{Bool, true, false, List, [], ◌∷◌, ◌++◌, decimal, codes, refl, sym, ap, ap₂, subst, ◌∙◌}
use Rattle.std.proofs.Common.{arith, true≢false}
use Rattle.std.proofs.lemmas.Bool.Decides.{nat_tests}
use Rattle.std.specs.Prelude.{encode_utf8_all}
use Rattle.std.specs.Char.{encode_utf8}
use Rattle.std.specs.Fmt.{digit_glyph, digits, digits_onto}
use Rattle.std.specs.List.{AllByRecursion, flat_map, list_all}
use Rattle.std.proofs.lemmas.Bool.{cond_both}
use Rattle.std.proofs.lemmas.Str.{encode_ascii, encodes-append}
use Rattle.vt_cells.specs.Op.{csi, semicolon_list}
use Rattle.vt_screen.specs.MadeOf.{Piece, IsCharacter, Characters, Numbered, Control, piece_text, IsOneOf, IsPiece}
use Rattle.vt_screen.specs.MadeOf.{IsMadeOf, drawing_controls, drawing_finals, escapes, input_controls, plain_controls}
use Rattle.vt_screen.specs.MadeOf.{reset_controls, shortened_controls, shortened_finals, state_controls}
use Rattle.vt_screen.specs.Diffs.{diff_controls, finals_with}
use Rattle.vt_screen.specs.States.{state_diff_controls}
use Rattle.vt_screen.specs.Escapes.{BeginsWith, EscapesOnly, HasOnlyControls, HasOnlyEscapes, is_graphic}
use Rattle.vt_screen.specs.Escapes.{moving_controls, usual_controls}
use Rattle.vt_screen.specs.declared.repeat.Repeat.{Repeat}
use Rattle.vt_screen.specs.declared.repeat.Repeat.TheVariants.{Never, Ascii, Any}

abbrev pub is_low : ℕ → Bool
is_low b = nat_le 0x20 b && nat_lt b 0x7F

pub visible_low : (b : ℕ) → 0x20 ≤ b → b < 0x7F → is_low b ≡ true
visible_low b h k = grind (arith, nat_tests, h, k)

abbrev AllLow : List ℕ → Type 0
AllLow bs = AllByRecursion (λ b. is_low b ≡ true) bs

visible_append : (xs ys : List ℕ) → AllLow xs → AllLow ys → AllLow (xs ++ ys)
visible_append [] ys h k = k
visible_append (x ∷ xs) ys h k = (h.0, visible_append xs ys h.1 k)

-- ---- numbers

glyph_visible : (n : ℕ) → is_low (digit_glyph false (n % 10)) ≡ true
glyph_visible n =
    cond_both (nat_lt (n % 10) 10) (48 + n % 10) (87 + n % 10) (λ (b : ℕ). is_low b ≡ true)
    (λ _. visible_low (48 + n % 10) (omega arith) (omega arith))
    (λ _. visible_low (87 + n % 10) (omega arith) (omega arith))

digits_visible : (k n : ℕ) (acc : List ℕ) → AllLow acc → AllLow (digits_onto k 10 false n acc)
digits_visible zero n acc h = h
digits_visible (suc k) n acc h =
    cond_both (n / 10 == 0) (digit_glyph false (n % 10) ∷ acc)
    (digits_onto k 10 false (n / 10) (digit_glyph false (n % 10) ∷ acc)) AllLow
    (λ _. (glyph_visible n, h)) (λ _. digits_visible k (n / 10) (digit_glyph false (n % 10) ∷ acc) (glyph_visible n, h))

decimal_visible : (n : ℕ) → AllLow (decimal n)
unfolding digits
decimal_visible n = digits_visible 64 n [] tt

joined_visible : (ns : List ℕ) → AllLow (semicolon_list ns)
joined_visible [] = tt
joined_visible (n ∷ []) = decimal_visible n
joined_visible (n ∷ m ∷ ns) =
    visible_append (decimal n) (0x3B ∷ semicolon_list (m ∷ ns)) (decimal_visible n) (refl, joined_visible (m ∷ ns))

-- ---- elements

begins_append : (nexts xs ys : List ℕ) → BeginsWith nexts xs → BeginsWith nexts (xs ++ ys)
begins_append nexts [] ys is = absurd is
begins_append nexts (x ∷ xs) ys is = is

only_append : (controls nexts xs ys : List ℕ) → EscapesOnly controls nexts xs → EscapesOnly controls nexts ys →
    EscapesOnly controls nexts (xs ++ ys)
only_append controls nexts [] ys h k = k
only_append controls nexts (x ∷ xs) ys h k =
    (h.0, ((λ e. begins_append nexts xs ys (h.1.0 e)), only_append controls nexts xs ys h.1.1 k))

pub graphic_apart : (c : ℕ) → is_graphic c ≡ true → c ≡ 0x1B → ⊥
graphic_apart c h e = true≢false (sym h ∙ ap is_graphic e)

pub low_graphic : (c : ℕ) → is_low c ≡ true → is_graphic c ≡ true
low_graphic c h = rw h refl

only_graphic : (controls nexts cs : List ℕ) → AllByRecursion (λ c. is_graphic c ≡ true) cs → EscapesOnly controls nexts cs
only_graphic controls nexts [] h = tt
only_graphic controls nexts (c ∷ cs) h =
    (inl h.0, ((λ e. absurd (graphic_apart c h.0 e)), only_graphic controls nexts cs h.1))

all_graphic : (cs : List ℕ) → AllLow cs → AllByRecursion (λ c. is_graphic c ≡ true) cs
all_graphic [] h = tt
all_graphic (c ∷ cs) h = (low_graphic c h.0, all_graphic cs h.1)

characters_graphic : (cs : List ℕ) → AllByRecursion IsCharacter cs → AllByRecursion (λ c. is_graphic c ≡ true) cs
characters_graphic [] h = tt
characters_graphic (c ∷ cs) h = (graphic_is c h.0.1, characters_graphic cs h.1) where
  graphic_is : (c : ℕ) → ((0x20 ≤ c) × (c < 0x7F)) ⊎ (0xA0 ≤ c) → is_graphic c ≡ true
  graphic_is c (inl h) = low_graphic c (visible_low c h.0 h.1)
  graphic_is c (inr h) = grind (arith, nat_tests, h)

low_ascii : (b : ℕ) → is_low b ≡ true → b < 128
low_ascii b h = grind (arith, nat_tests, h)

encodes_low : (bs : List ℕ) → AllLow bs → bs ≡ encode_utf8_all bs
encodes_low [] h = refl
encodes_low (b ∷ bs) h =
    ap (λ (rest : List ℕ). b ∷ rest) (encodes_low bs h.1)
    ∙ ap (λ (xs : List ℕ). xs ++ encode_utf8_all bs) (sym (encode_ascii b (low_ascii b h.0)))

escapes_escape : (nexts bs : List ℕ) → BeginsWith nexts bs → AllLow bs → HasOnlyEscapes nexts (0x1B ∷ bs)
unfolding encode_utf8
escapes_escape nexts bs is h = record {
  characters = 0x1B ∷ bs;
  spelled = ap (λ (rest : List ℕ). 0x1B ∷ rest) (encodes_low bs h);
  only = (inr (inr (inr (inr (inl refl)))), ((λ e. is), only_graphic usual_controls nexts bs (all_graphic bs h)));
}

pub escapes_append : (controls nexts xs ys : List ℕ) → HasOnlyControls controls nexts xs → HasOnlyControls controls nexts ys →
    HasOnlyControls controls nexts (xs ++ ys)
escapes_append controls nexts xs ys p q = record {
  characters = p.characters ++ q.characters;
  spelled = ap₂ (λ (a b : List ℕ). a ++ b) p.spelled q.spelled ∙ sym (encodes-append p.characters q.characters);
  only = only_append controls nexts p.characters q.characters p.only q.only;
}

only_more : (nexts cs : List ℕ) → EscapesOnly usual_controls nexts cs → EscapesOnly moving_controls nexts cs
only_more nexts [] h = tt
only_more nexts (c ∷ cs) h = (more h.0, (h.1.0, only_more nexts cs h.1.1)) where
  more : (is_graphic c ≡ true) ⊎ IsOneOf c usual_controls → (is_graphic c ≡ true) ⊎ IsOneOf c moving_controls
  more (inl is) = inl is
  more (inr is) = inr (inr is)

escapes_more : (nexts text : List ℕ) → HasOnlyEscapes nexts text → HasOnlyControls moving_controls nexts text
escapes_more nexts text h = record {
  characters = h.characters;
  spelled = h.spelled;
  only = only_more nexts h.characters h.only;
}

-- The bytes begin with one of `nexts`, and all of them are printable ASCII, so they may follow ESC.
abbrev IsTail : List ℕ → List ℕ → Type 0
IsTail nexts tail = BeginsWith nexts tail × (list_all is_low tail ≡ true)

all_visible : (bs : List ℕ) → list_all is_low bs ≡ true → AllLow bs
all_visible [] e = tt
all_visible (b ∷ bs) e = let both = parts (is_low b) (list_all is_low bs) e in (both.0, all_visible bs both.1)
  where
    parts : (v w : Bool) → (v && w) ≡ true → (v ≡ true) × (w ≡ true)
    parts true w rest = (refl, rest)
    parts false w rest = absurd (true≢false (sym rest))

tails_only : (nexts : List ℕ) (tails : List (List ℕ)) → AllByRecursion (IsTail nexts) tails →
    (bytes : List ℕ) → IsOneOf bytes (escapes tails) → HasOnlyEscapes nexts bytes
tails_only nexts [] are bytes is = absurd is
tails_only nexts (tail ∷ tails) are bytes (inl e) =
    subst (HasOnlyEscapes nexts) (sym e) (escapes_escape nexts tail are.0.0 (all_visible tail are.0.1))
tails_only nexts (tail ∷ tails) are bytes (inr is) = tails_only nexts tails are.1 bytes is

either : (x : List ℕ) (xs ys : List (List ℕ)) → IsOneOf x (xs ++ ys) → IsOneOf x xs ⊎ IsOneOf x ys
either x [] ys is = inr is
either x (z ∷ xs) ys (inl e) = inl (inl e)
either x (z ∷ xs) ys (inr is) = further (either x xs ys is) where
  further : IsOneOf x xs ⊎ IsOneOf x ys → IsOneOf x (z ∷ xs) ⊎ IsOneOf x ys
  further (inl one) = inl (inr one)
  further (inr one) = inr one

pieces_only : (usual nexts finals : List ℕ) (controls : List (List ℕ)) →
    ((bytes : List ℕ) → HasOnlyEscapes nexts bytes → HasOnlyControls usual nexts bytes) →
    ((f : ℕ) → IsOneOf f finals → (is_low f ≡ true) × IsOneOf 0x5B nexts) →
    ((bytes : List ℕ) → IsOneOf bytes controls → HasOnlyControls usual nexts bytes) →
    (pieces : List Piece) → AllByRecursion (IsPiece finals controls) pieces →
    HasOnlyControls usual nexts (flat_map piece_text pieces)
pieces_only usual nexts finals controls more f c [] are = record { characters = []; spelled = refl; only = tt }
pieces_only usual nexts finals controls more f c (Characters cs ∷ pieces) are =
    escapes_append usual nexts (encode_utf8_all cs) (flat_map piece_text pieces)
    (record { characters = cs; spelled = refl; only = only_graphic usual nexts cs (characters_graphic cs are.0) })
    (pieces_only usual nexts finals controls more f c pieces are.1)
pieces_only usual nexts finals controls more f c (Numbered numbers final ∷ pieces) are =
    escapes_append usual nexts (csi (semicolon_list numbers) final) (flat_map piece_text pieces)
    (more (csi (semicolon_list numbers) final) (escapes_escape nexts (0x5B ∷ (semicolon_list numbers ++ final ∷ []))
    (f final are.0).1
    (refl, visible_append (semicolon_list numbers) (final ∷ []) (joined_visible numbers) ((f final are.0).0, tt))))
    (pieces_only usual nexts finals controls more f c pieces are.1)
pieces_only usual nexts finals controls more f c (Control bytes ∷ pieces) are =
    escapes_append usual nexts bytes (flat_map piece_text pieces) (c bytes are.0)
    (pieces_only usual nexts finals controls more f c pieces are.1)

made_of : (usual nexts finals : List ℕ) (controls : List (List ℕ)) →
    ((bytes : List ℕ) → HasOnlyEscapes nexts bytes → HasOnlyControls usual nexts bytes) →
    ((f : ℕ) → IsOneOf f finals → (is_low f ≡ true) × IsOneOf 0x5B nexts) →
    ((bytes : List ℕ) → IsOneOf bytes controls → HasOnlyControls usual nexts bytes) →
    (text : List ℕ) → IsMadeOf finals controls text → HasOnlyControls usual nexts text
made_of usual nexts finals controls more f c text made =
    subst (HasOnlyControls usual nexts) (sym made.spelled)
    (pieces_only usual nexts finals controls more f c made.pieces made.are_pieces)

pub made_only : (nexts finals : List ℕ) (controls : List (List ℕ)) →
    ((f : ℕ) → IsOneOf f finals → (is_low f ≡ true) × IsOneOf 0x5B nexts) →
    ((bytes : List ℕ) → IsOneOf bytes controls → HasOnlyEscapes nexts bytes) →
    (text : List ℕ) → IsMadeOf finals controls text → HasOnlyEscapes nexts text
made_only nexts finals controls f c text made = made_of usual_controls nexts finals controls (λ _ h. h) f c text made

-- ---- the output of screens

one_visible : (finals : List ℕ) → AllLow finals → (nexts : List ℕ) →
    IsOneOf 0x5B nexts → (f : ℕ) → IsOneOf f finals → (is_low f ≡ true) × IsOneOf 0x5B nexts
one_visible [] are nexts bracket f is = absurd is
one_visible (g ∷ finals) are nexts bracket f (inl e) = (ap is_low e ∙ are.0, bracket)
one_visible (g ∷ finals) are nexts bracket f (inr is) = one_visible finals are.1 nexts bracket f is

abbrev drawing_tails : List (List ℕ)
drawing_tails = codes "7" ∷ codes "8" ∷ codes "[?25h" ∷ codes "[?25l" ∷ codes "[J" ∷ codes "[K" ∷ []

abbrev input_tails : List (List ℕ)
input_tails =
    codes "=" ∷ codes ">" ∷ codes "[?1h" ∷ codes "[?1l" ∷ codes "[?2004h" ∷ codes "[?2004l"
    ∷ codes "[?9h" ∷ codes "[?9l" ∷ codes "[?1000h" ∷ codes "[?1000l" ∷ codes "[?1002h" ∷ codes "[?1002l"
    ∷ codes "[?1003h" ∷ codes "[?1003l" ∷ codes "[?1005h" ∷ codes "[?1005l" ∷ codes "[?1006h" ∷ codes "[?1006l"
    ∷ codes "[0 q" ∷ codes "[1 q" ∷ codes "[2 q" ∷ codes "[3 q" ∷ codes "[4 q" ∷ codes "[5 q" ∷ codes "[6 q" ∷ []

abbrev reset_tails : List (List ℕ)
reset_tails = codes "[?6l" ∷ codes "[r" ∷ []

apart : (b : ℕ) → (b == 0x1B) ≡ false → b ≡ 0x1B → ⊥
apart b e k = true≢false (sym (ap (λ (x : ℕ). x == 0x1B) k) ∙ e)

drawing_only : (nexts : List ℕ) → AllByRecursion (IsTail nexts) drawing_tails →
    (bytes : List ℕ) → IsOneOf bytes drawing_controls → HasOnlyEscapes nexts bytes
unfolding encode_utf8
drawing_only nexts tails bytes (inl e) =
    subst (HasOnlyEscapes nexts) (sym e) (record {
      characters = 0x0D ∷ 0x0A ∷ [];
      spelled = refl;
      only = (
        inr (inr (inr (inl refl))),
        (
          (λ k. absurd (apart 0x0D refl k)),
          (inr (inr (inl refl)), ((λ k. absurd (apart 0x0A refl k)), tt)),
        ),
      );
    })
drawing_only nexts tails bytes (inr (inl e)) =
    subst (HasOnlyEscapes nexts) (sym e) (record {
      characters = 0x0A ∷ [];
      spelled = refl;
      only = (inr (inr (inl refl)), ((λ k. absurd (apart 0x0A refl k)), tt));
    })
drawing_only nexts tails bytes (inr (inr (inl e))) =
    subst (HasOnlyEscapes nexts) (sym e) (record {
      characters = 0x08 ∷ [];
      spelled = refl;
      only = (inr (inl refl), ((λ k. absurd (apart 0x08 refl k)), tt));
    })
drawing_only nexts tails bytes (inr (inr (inr is))) = tails_only nexts drawing_tails tails bytes is

abbrev pub drawing_nexts : List ℕ
drawing_nexts = codes "[78"

abbrev pub state_nexts : List ℕ
state_nexts = codes "[78=>"

drawing_tailed : AllByRecursion (IsTail drawing_nexts) drawing_tails
drawing_tailed = ((inr (inl refl), refl), ((inr (inr (inl refl)), refl), ((inl refl, refl), ((inl refl, refl), ((inl refl, refl), ((inl refl, refl), tt))))))

state_tailed : AllByRecursion (IsTail state_nexts) drawing_tails
state_tailed = ((inr (inl refl), refl), ((inr (inr (inl refl)), refl), ((inl refl, refl), ((inl refl, refl), ((inl refl, refl), ((inl refl, refl), tt))))))

shortened_low : AllLow shortened_finals
shortened_low = (refl, (refl, (refl, (refl, (refl, (refl, (refl, (refl, (refl, tt)))))))))

drawing_low : AllLow drawing_finals
drawing_low = (refl, (refl, (refl, (refl, tt))))

-- In output with shortened cursor movements, HT may occur, too.
shortened_only : (nexts : List ℕ) → AllByRecursion (IsTail nexts) drawing_tails →
    (bytes : List ℕ) → IsOneOf bytes shortened_controls → HasOnlyControls moving_controls nexts bytes
unfolding encode_utf8
shortened_only nexts tails bytes (inl e) =
    subst (HasOnlyControls moving_controls nexts) (sym e) (record {
      characters = 0x0D ∷ [];
      spelled = refl;
      only = (inr (inr (inr (inr (inl refl)))), ((λ k. absurd (apart 0x0D refl k)), tt));
    })
shortened_only nexts tails bytes (inr (inl e)) =
    subst (HasOnlyControls moving_controls nexts) (sym e) (record {
      characters = 0x09 ∷ [];
      spelled = refl;
      only = (inr (inl refl), ((λ k. absurd (apart 0x09 refl k)), tt));
    })
shortened_only nexts tails bytes (inr (inr is)) = escapes_more nexts bytes (drawing_only nexts tails bytes is)

pub shortened_moves_only : (text : List ℕ) → IsMadeOf shortened_finals shortened_controls text →
    HasOnlyControls moving_controls drawing_nexts text
shortened_moves_only text made =
    made_of moving_controls drawing_nexts shortened_finals shortened_controls (escapes_more drawing_nexts)
    (one_visible shortened_finals shortened_low drawing_nexts (inl refl)) (shortened_only drawing_nexts drawing_tailed) text made

pub drawn_only : (text : List ℕ) → IsMadeOf drawing_finals drawing_controls text → HasOnlyEscapes drawing_nexts text
drawn_only text made =
    made_only drawing_nexts drawing_finals drawing_controls
    (one_visible drawing_finals drawing_low drawing_nexts (inl refl)) (drawing_only drawing_nexts drawing_tailed) text made

finals_low : (repeat : Repeat) (scroll : Bool) → AllLow (finals_with repeat scroll)
finals_low Never false = drawing_low
finals_low Ascii false = (refl, drawing_low)
finals_low Any false = (refl, drawing_low)
finals_low Never true = shortened_low
finals_low Ascii true = (refl, shortened_low)
finals_low Any true = (refl, shortened_low)

-- In a diff with options, a control sequence may also end in the final byte of REP.
pub with_options_only : (repeat : Repeat) (text : List ℕ) → IsMadeOf (finals_with repeat false) (diff_controls false) text →
    HasOnlyEscapes drawing_nexts text
with_options_only repeat text made =
    made_only drawing_nexts (finals_with repeat false) drawing_controls
    (one_visible (finals_with repeat false) (finals_low repeat false) drawing_nexts (inl refl))
    (drawing_only drawing_nexts drawing_tailed) text made

pub with_scrolling_only : (repeat : Repeat) (text : List ℕ) → IsMadeOf (finals_with repeat true) (diff_controls true) text →
    HasOnlyControls moving_controls drawing_nexts text
with_scrolling_only repeat text made =
    made_of moving_controls drawing_nexts (finals_with repeat true) shortened_controls (escapes_more drawing_nexts)
    (one_visible (finals_with repeat true) (finals_low repeat true) drawing_nexts (inl refl))
    (shortened_only drawing_nexts drawing_tailed) text made

pub reset_only : (text : List ℕ) → IsMadeOf drawing_finals reset_controls text → HasOnlyEscapes drawing_nexts text
reset_only text made =
    made_only drawing_nexts drawing_finals reset_controls
    (one_visible drawing_finals drawing_low drawing_nexts (inl refl))
    (λ bytes is. by_kind bytes (either bytes (escapes reset_tails) drawing_controls is)) text made
  where
    by_kind : (bytes : List ℕ) → IsOneOf bytes (escapes reset_tails) ⊎ IsOneOf bytes drawing_controls →
        HasOnlyEscapes drawing_nexts bytes
    by_kind bytes (inl is) =
        tails_only drawing_nexts reset_tails ((inl refl, refl), ((inl refl, refl), tt)) bytes is
    by_kind bytes (inr is) = drawing_only drawing_nexts drawing_tailed bytes is

-- In output that also sets input modes, `=` and `>` may follow ESC, too.
input_only : (bytes : List ℕ) → IsOneOf bytes input_controls → HasOnlyEscapes state_nexts bytes
input_only bytes is =
    tails_only state_nexts input_tails ((inr (inr (inr (inl refl))), refl), ((inr (inr (inr (inr (inl refl)))), refl), ((inl refl, refl), ((inl refl, refl), ((inl refl, refl), ((inl refl, refl), ((inl refl, refl), ((inl refl, refl), ((inl refl, refl), ((inl refl, refl), ((inl refl, refl), ((inl refl, refl), ((inl refl, refl), ((inl refl, refl), ((inl refl, refl), ((inl refl, refl), ((inl refl, refl), ((inl refl, refl), ((inl refl, refl), ((inl refl, refl), ((inl refl, refl), ((inl refl, refl), ((inl refl, refl), ((inl refl, refl), ((inl refl, refl), tt))))))))))))))))))))))))) bytes is

state_control_only : (bytes : List ℕ) → IsOneOf bytes state_controls → HasOnlyEscapes state_nexts bytes
state_control_only bytes is = by_kind (either bytes input_controls drawing_controls is) where
  by_kind : IsOneOf bytes input_controls ⊎ IsOneOf bytes drawing_controls → HasOnlyEscapes state_nexts bytes
  by_kind (inl is) = input_only bytes is
  by_kind (inr is) = drawing_only state_nexts state_tailed bytes is

pub state_only : (text : List ℕ) → IsMadeOf drawing_finals state_controls text → HasOnlyEscapes state_nexts text
state_only text made =
    made_only state_nexts drawing_finals state_controls
    (one_visible drawing_finals drawing_low state_nexts (inl refl)) state_control_only text made

-- In output that may also move rows or columns, or shorten movements, HT may occur, too.
moving_control_only : (bytes : List ℕ) → IsOneOf bytes (state_diff_controls true) →
    HasOnlyControls moving_controls state_nexts bytes
moving_control_only bytes is = by_kind (either bytes input_controls shortened_controls is) where
  by_kind : IsOneOf bytes input_controls ⊎ IsOneOf bytes shortened_controls →
      HasOnlyControls moving_controls state_nexts bytes
  by_kind (inl is) = escapes_more state_nexts bytes (input_only bytes is)
  by_kind (inr is) = shortened_only state_nexts state_tailed bytes is

pub state_with_options_only : (repeat : Repeat) (text : List ℕ) →
    IsMadeOf (finals_with repeat false) (state_diff_controls false) text → HasOnlyEscapes state_nexts text
state_with_options_only repeat text made =
    made_only state_nexts (finals_with repeat false) (state_diff_controls false)
    (one_visible (finals_with repeat false) (finals_low repeat false) state_nexts (inl refl)) state_control_only text made

pub state_with_scrolling_only : (repeat : Repeat) (text : List ℕ) →
    IsMadeOf (finals_with repeat true) (state_diff_controls true) text → HasOnlyControls moving_controls state_nexts text
state_with_scrolling_only repeat text made =
    made_of moving_controls state_nexts (finals_with repeat true) (state_diff_controls true) (escapes_more state_nexts)
    (one_visible (finals_with repeat true) (finals_low repeat true) state_nexts (inl refl)) moving_control_only text made

-- In captures, only `[` follows ESC; plain text contains no ESC.
line_only : (nexts bytes : List ℕ) → IsOneOf bytes plain_controls → HasOnlyEscapes nexts bytes
unfolding encode_utf8
line_only nexts bytes (inl e) =
    subst (HasOnlyEscapes nexts) (sym e) (record {
      characters = 0x0A ∷ [];
      spelled = refl;
      only = (inr (inr (inl refl)), ((λ k. absurd (apart 0x0A refl k)), tt));
    })
line_only nexts bytes (inr is) = absurd is

pub capture_only : (text : List ℕ) → IsMadeOf (codes "m") plain_controls text → HasOnlyEscapes (codes "[") text
capture_only text made =
    made_only (codes "[") (codes "m") plain_controls
    (one_visible (codes "m") (refl, tt) (codes "[") (inl refl)) (line_only (codes "[")) text made

pub plain_only : (text : List ℕ) → IsMadeOf [] plain_controls text → HasOnlyEscapes [] text
plain_only text made = made_only [] [] plain_controls (λ f is. absurd is) (line_only []) text made
