-- The lines before evidence, as far as they were looked at.
use Rattle.std.specs.Prelude.{◌≡◌, ◌⊎◌, ℕ, ◌+◌, ◌-◌, ◌<◌, ◌≤◌, true, false, List, [], ◌∷◌, ◌++◌, length, take, drop, Some, None, flat_map, refl}
use Rattle.std.specs.List.{position_from}
use Rattle.std.proofs.Common.{sym, ◌∙◌, ap, inl, inr, arith, get_or, cond, append_assoc, append-nil, length-append}
use Rattle.std.proofs.lemmas.Bool.{cases_lt}
use Rattle.std.proofs.lemmas.List.{take_more, drop_more, drop_all}
use Rattle.aud_text.specs.Lines.{lines_of, Splits}
use Rattle.cli_lines.specs.Evidences.{begins, place_of, text_before, text_from}
use Rattle.cli_lines.specs.declared.evidence.Evidence.{Evidence}

abbrev ended : List ℕ → List ℕ
ended l = l ++ 10 ∷ []

flat-append : (xs ys : List (List ℕ)) → flat_map ended (xs ++ ys) ≡ flat_map ended xs ++ flat_map ended ys
flat-append [] ys = refl
flat-append (x ∷ xs) ys = ap (λ l. ended x ++ l) (flat-append xs ys) ∙ sym (append_assoc (ended x) (flat_map ended xs) (flat_map ended ys))

take-front : (xs ys : List ℕ) → take (length xs) (xs ++ ys) ≡ xs
take-front [] ys = refl
take-front (x ∷ xs) ys = ap (λ l. x ∷ l) (take-front xs ys)

drop-front : (xs ys : List ℕ) → drop (length xs) (xs ++ ys) ≡ ys
drop-front [] ys = refl
drop-front (x ∷ xs) ys = drop-front xs ys

-- so many lines were looked at, none of which begins it
pub record IsAt (e : Evidence) (text rest : List ℕ) (n : ℕ) : Type 0 where
  pub left : lines_of rest ≡ drop n (lines_of text)
  pub place : place_of e text ≡ position_from (begins e) n (lines_of rest)
  pub parts : (rest ≡ []) ⊎ (text ≡ text_before text n ++ rest)
  pub room : n + length rest ≤ length text

pub at-start : (e : Evidence) (text : List ℕ) → IsAt e text text 0
at-start e text = record { left = refl; place = refl; parts = inr refl; room = omega arith }

module _ (e : Evidence) (text rest : List ℕ) (n : ℕ) (was : IsAt e text rest n) where
  -- the next line
  next : (line : List ℕ) (ls : List (List ℕ)) → lines_of rest ≡ line ∷ ls → (n < length (lines_of text)) × ((get_or (lines_of text) n [] ≡ line) × (drop (n + 1) (lines_of text) ≡ ls))
  next line ls is =
      elim (cases_lt n (length (lines_of text))) [
        | inl inside ↦
            let both : get_or (lines_of text) n [] ∷ drop (n + 1) (lines_of text) ≡ line ∷ ls = sym (drop_more (lines_of text) n [] inside) ∙ sym was.left ∙ is in
            (inside, (cc, cc))
        | inr past ↦
            let none : [] ≡ line ∷ ls = sym (drop_all n (lines_of text) past) ∙ sym was.left ∙ is in absurd (cc)
      ]

  filled : (line : List ℕ) (ls : List (List ℕ)) → lines_of rest ≡ line ∷ ls → rest ≡ [] → ⊥
  filled line ls is none = let clash : [] ≡ line ∷ ls = ap lines_of (sym none) ∙ is in cc

  pub at-more : (line after : List ℕ) → lines_of rest ≡ line ∷ lines_of after → Splits rest line after → begins e line ≡ false → length after < length rest → IsAt e text after (n + 1)
  at-more line after is splits fails shorter =
      let (inside, (here, more)) = next line (lines_of after) is in
      let grown : text_before text (n + 1) ≡ text_before text n ++ ended line =
      ap (flat_map ended) (take_more (lines_of text) n [] inside) ∙ flat-append (take n (lines_of text)) (get_or (lines_of text) n [] ∷ [])
      ∙ ap (λ l. text_before text n ++ (ended l ++ [])) here ∙ ap (λ l. text_before text n ++ l) (append-nil (ended line)) in record {
        left = sym more;
        place = was.place ∙ ap (position_from (begins e) n) is ∙ ap (λ b. cond b (Some n) (position_from (begins e) (n + 1) (lines_of after))) fails;
        parts = elim splits.is_feed [
          | inr last ↦ inl last.1
          | inl feed ↦ elim was.parts [
            | inl none ↦ absurd (filled line (lines_of after) is none)
            | inr whole ↦ inr (whole ∙ ap (λ l. text_before text n ++ l) (splits.parts ∙ ap (λ f. line ++ (f ++ after)) feed ∙ sym (append_assoc line (10 ∷ []) after))
                ∙ sym (append_assoc (text_before text n) (ended line) after) ∙ ap (λ l. l ++ after) (sym grown))
          ]
        ];
        room = let r = was.room in omega arith;
      }

  pub at-found : (line after : List ℕ) → lines_of rest ≡ line ∷ lines_of after → begins e line ≡ true →
      (place_of e text ≡ Some n) × ((take (length text - length rest) text ≡ text_before text n) × (rest ≡ text_from text n))
  at-found line after is holds = (
    was.place ∙ ap (position_from (begins e) n) is ∙ ap (λ b. cond b (Some n) (position_from (begins e) (n + 1) (lines_of after))) holds,
    elim was.parts [
      | inl none ↦ absurd (filled line (lines_of after) is none)
      | inr whole ↦
          let long : length text ≡ length (text_before text n) + length rest = ap length whole ∙ length-append (text_before text n) rest in
          let short : length text - length rest ≡ length (text_before text n) = omega arith in (
            ap (λ (k : ℕ). take k text) short ∙ ap (λ l. take (length (text_before text n)) l) whole ∙ take-front (text_before text n) rest,
            sym (ap (λ l. drop (length (text_before text n)) l) whole ∙ drop-front (text_before text n) rest),
          )
    ],
  )

  pub at-end : rest ≡ [] → place_of e text ≡ None
  at-end none = was.place ∙ ap (λ r. position_from (begins e) n (lines_of r)) none
