-- A token at the front of a text, and what is left after it.
use Rattle.std.proofs.Common.{◌≡◌, ◌≢◌, ℕ, suc, ◌+◌, ◌-◌, ◌<◌, ◌≤◌, true, false, cond, [], ◌∷◌, length, get_or, take, drop, IsUtf8, ⊎_elim, add-one, drop-cons, get_or-drop, Ok, refl, sym, ap, ◌∙◌, subst, arith, length-take-le}
use Rattle.std.specs.Prelude.{◌==◌, filter, not, slice_index}
use Rattle.std.specs.Char.{is_ascii_whitespace}
use Rattle.std.specs.Str.{IsCharBoundary}
use Rattle.std.proofs.lemmas.Bool.{eqb-false, ne_eqb}
use Rattle.std.proofs.lemmas.Grind.{common_steps}
use Rattle.std.proofs.lemmas.List.{drop-drop, get_or_past, take-append-drop, take_rest}
use Rattle.std.proofs.lemmas.Str.{IsCharBoundary-after_ascii}
use Rattle.std.proofs.str.Laws.{order}
use Rattle.promql_token.specs.declared.class.Class.TheVariants as class
use Rattle.promql_token.specs.declared.state.Mode.{Mode}
use Rattle.promql_token.specs.declared.state.Mode.TheVariants as mode
use Rattle.promql_token.specs.declared.state.State.{State}
use Rattle.promql_text.specs.Texts.{Text}
use Rattle.promql_token.specs.Classes.{is_letter, end_of_run}
use Rattle.promql_token.specs.Cursor.{is_before_end}
use Rattle.promql_token.specs.Front.{IsFront, IsFrontWord, begins_trivia, has_fault, up_to_fault}
use Rattle.promql_token.specs.Lexing.{pieces}
use Rattle.promql_token.specs.TokenScanning.{after, braces_id, in_braces, mode_after_something, outside, scan_in_mode, scan_token, trivia_from, trivia_len, word, word_id, word_in_braces}
use Rattle.promql_token.proofs.one_reading.Inner.{word_plain, braces_plain, plain_no_end, after_outside, after_in_braces}
use Rattle.promql_token.proofs.one_reading.Items.{ends_at}
use Rattle.promql_token.proofs.one_reading.Ends.{PieceEnds, piece_ends}
use Rattle.promql_token.proofs.one_reading.Steps.{pieces_piece, pieces_run}
use Rattle.promql_token.specs.declared.ids.TheConstants.{T_EOF}

-- ---- no trivia

no_white : (b : ℕ) → begins_trivia b ≡ false → is_ascii_whitespace b ≡ false
no_white b h = grind (arith, common_steps)

no_hash : (b : ℕ) → begins_trivia b ≡ false → (b == 35) ≡ false
no_hash b h = grind (arith, common_steps)

stops : (z : Text) → begins_trivia (get_or z 0 0) ≡ false → trivia_from false z ≡ 0
stops [] h = refl
stops (b ∷ z) h =
    ap (λ c. cond c (suc (trivia_from true z)) (cond (is_ascii_whitespace b) (suc (trivia_from false z)) 0)) (no_hash b h) ∙ ap (λ c. cond c (suc (trivia_from false z)) 0) (no_white b h)

no_run : (z : Text) → begins_trivia (get_or z 0 0) ≡ false → end_of_run class.White z 0 ≡ 0
no_run [] h = refl
no_run (b ∷ z) h = let white = no_white b h in rw white refl

no_trivia : (m : Mode) (z : Text) → begins_trivia (get_or z 0 0) ≡ false → trivia_len m z ≡ 0
unfolding trivia_len
no_trivia mode.Outside z h = stops z h
no_trivia mode.Braces z h = stops z h
no_trivia (mode.Brackets inside) z h = no_run z h

-- ---- what is scanned there

scanned : (state : State) (z : Text) → 0 < length z → scan_token state z ≡ scan_in_mode state.mode state.depth z
unfolding scan_token
scanned state [] some = absurd (omega arith)
scanned state (b ∷ z) some = refl

pub front_token : (state : State) (m : Mode) (z : Text) (id : ℕ) → state.mode ≡ m → 0 < length z → scan_in_mode m state.depth z ≡ Ok (id, 1) → (id == T_EOF) ≡ false → begins_trivia (get_or z 0 0) ≡ false
    → IsFront state z id 1
front_token state m z id mode_is some is more begins = record {
  trivia = no_trivia state.mode z begins;
  scanned = scanned state z some ∙ ap (λ m. scan_in_mode m state.depth z) mode_is ∙ is;
  no_end = eqb-false _ _ more;
}

-- ---- words

letter_byte : (b : ℕ) → is_letter b ≡ true → begins_trivia b ≡ false
letter_byte b h = grind (arith, common_steps)

some_letter : (z : Text) → is_letter (get_or z 0 0) ≡ true → 0 < length z
some_letter [] h = cc
some_letter (b ∷ z) h = omega arith

letter_outside : (depth : ℕ) (z : Text) → is_letter (get_or z 0 0) ≡ true → outside depth z ≡ word z
unfolding outside
letter_outside depth z letter = grind (arith, common_steps)

letter_in_braces : (z : Text) → is_letter (get_or z 0 0) ≡ true → in_braces z ≡ word_in_braces z
unfolding in_braces
letter_in_braces z letter = grind (arith, common_steps)

pub front_word_outside : (depth : ℕ) (z : Text) → is_letter (get_or z 0 0) ≡ true
    → let state : State = record { depth = depth; mode = mode.Outside } in let n = end_of_run class.Word z 0 in IsFrontWord state z (word_id (take n z) (drop n z)) n
unfolding word
front_word_outside depth z letter =
    let state : State = record { depth = depth; mode = mode.Outside } in
    let n = end_of_run class.Word z 0 in
    let plain = word_plain (take n z) (drop n z) in
    record {
      front = record {
        trivia = no_trivia mode.Outside z (letter_byte (get_or z 0 0) letter);
        scanned = scanned state z (some_letter z letter) ∙ letter_outside depth z letter;
        no_end = eqb-false _ _ (plain_no_end _ plain);
      };
      stays = after_outside depth _ plain;
    }

pub front_word_in_braces : (depth : ℕ) (z : Text) → is_letter (get_or z 0 0) ≡ true
    → let state : State = record { depth = depth; mode = mode.Braces } in let n = end_of_run class.Name z 0 in IsFrontWord state z (braces_id (take n z) (drop n z)) n
unfolding word_in_braces
front_word_in_braces depth z letter =
    let state : State = record { depth = depth; mode = mode.Braces } in
    let n = end_of_run class.Name z 0 in
    let plain = braces_plain (take n z) (drop n z) in
    record {
      front = record {
        trivia = no_trivia mode.Braces z (letter_byte (get_or z 0 0) letter);
        scanned = scanned state z (some_letter z letter) ∙ letter_in_braces z letter;
        no_end = eqb-false _ _ (plain_no_end _ plain);
      };
      stays = after_in_braces depth _ plain;
    }

-- ---- a space

pub record IsSpace (text : Text) (at : ℕ) : Type 0 where
  pub within : at < length text
  pub byte : get_or text at 0 ≡ 32

-- as the code has it
pub is_space : (bytes text : Text) (at : ℕ) → bytes ≡ text → slice_index (take (length bytes - at) (drop at bytes)) 0 ≡ 32 → IsSpace text at
is_space bytes text at same is =
    let here : get_or (drop at text) 0 0 ≡ 32 = ap (λ t. get_or (drop at t) 0 0) (sym same) ∙ ap (λ z. get_or z 0 0) (sym (take_rest bytes at)) ∙ is in
    let front : at ≡ at + 0 = omega arith in
    let there : get_or text at 0 ≡ 32 = ap (λ n. get_or text n 0) front ∙ sym (get_or-drop at text 0 0) ∙ here in
    record {
      within = ⊎_elim (λ below. below) (λ (over : length text ≤ at). absurd (omega (arith, get_or_past text at 0 over))) (order at (length text));
      byte = there;
    }

pub after_space : (text : Text) (at : ℕ) → IsUtf8 text → IsSpace text at → IsCharBoundary text (at + 1)
after_space text at utf8 s = let byte = s.byte in IsCharBoundary-after_ascii text at utf8 s.within (omega arith)

pub space_passed : (text : Text) (at : ℕ) (state : State) → mode_after_something state.mode ≡ state.mode → IsSpace text at → pieces state (drop (at + 1) text) ≡ pieces state (drop at text)
space_passed text at state same s =
    let z = drop (at + 1) text in
    let front : drop at text ≡ 32 ∷ z = drop-cons text at 0 s.within ∙ ap (λ b. b ∷ drop (suc at) text) s.byte ∙ ap (λ n. 32 ∷ drop n text) (sym (add-one at)) in
    sym (pieces_run state (32 ∷ []) z same refl) ∙ ap (pieces state) (sym front)

-- ---- what is left

pub record IsNext (text : Text) (at : ℕ) (state : State) (id len : ℕ) : Type 0 where
  pub end : IsCharBoundary text (at + len)
  pub no_end : id ≢ 6
  pub left : pieces state (drop at text) ≡ Ok (id, take len (drop at text)) ∷ pieces (after state id) (drop (at + len) text)

pub is_next : (text : Text) (at : ℕ) (state : State) (id len : ℕ) → IsUtf8 text → IsCharBoundary text at → IsFront state (drop at text) id len → IsNext text at state id len
is_next text at state id len utf8 place f =
    let z = drop at text in
    let ends = subst (PieceEnds z) f.scanned (piece_ends state z) in
    let within = ends.0.within in
    let length_is : length (take len z) ≡ len = length-take-le len z within in
    let whole = sym (take-append-drop len z) in
    let trivia = subst (λ z. trivia_len state.mode z ≡ 0) whole f.trivia in
    let scanned = subst (λ y. scan_token state y ≡ Ok (id, length (take len z))) whole (f.scanned ∙ ap (λ n. Ok (id, n)) (sym length_is)) in
    record {
      end = ends_at text at len utf8 place ends.0;
      no_end = f.no_end;
      left = ap (pieces state) whole ∙ pieces_piece state (take len z) (drop len z) id trivia scanned (ne_eqb id 6 f.no_end) ∙ ap (λ r. Ok (id, take len z) ∷ pieces (after state id) r) (drop-drop len at text);
    }

-- as the code has it
pub next_here : (bytes text : Text) (at : ℕ) (state : State) (id len : ℕ) → IsUtf8 bytes → bytes ≡ text → IsCharBoundary text at → IsFront state (take (length bytes - at) (drop at bytes)) id len → IsNext text at state id len
next_here bytes text at state id len utf8 same place f =
    is_next text at state id len (subst IsUtf8 same utf8) place (subst (λ z. IsFront state z id len) (take_rest bytes at ∙ ap (drop at) same) f)

-- past it
module _ {text : Text} {at : ℕ} {state : State} {id len : ℕ} (n : IsNext text at state id len) (taken text2 : Text) (at2 : ℕ) (state2 : State)
    (taken_is : taken ≡ take len (drop at text)) (text_is : text2 ≡ text) (at_is : at2 ≡ at + len) (state_is : state2 ≡ after state id) where
  pieces_past : pieces state (drop at text) ≡ Ok (id, taken) ∷ pieces state2 (drop at2 text2)
  pieces_past = n.left ∙ (λ i. Ok (id, (sym taken_is) i) ∷ pieces ((sym state_is) i) (drop ((sym at_is) i) ((sym text_is) i)))

  pub tokens_past : filter is_before_end (up_to_fault (pieces state (drop at text))) ≡ (id, taken) ∷ filter is_before_end (up_to_fault (pieces state2 (drop at2 text2)))
  tokens_past =
      let left = filter is_before_end (up_to_fault (pieces state2 (drop at2 text2))) in
      ap (λ ws. filter is_before_end (up_to_fault ws)) pieces_past ∙ ap (λ b. cond (not b) ((id, taken) ∷ left) left) (ne_eqb id 6 n.no_end)

  pub fault_past : has_fault (pieces state2 (drop at2 text2)) ≡ has_fault (pieces state (drop at text))
  fault_past = sym (ap has_fault pieces_past)
