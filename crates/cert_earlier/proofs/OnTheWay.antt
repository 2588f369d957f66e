-- A cursor on its way along a list.
use Rattle.std.specs.Prelude.{◌≡◌, ◌≢◌, ℕ, ◌-◌, ◌<◌, ◌≤◌, Bool, true, false, [], length}
use Rattle.std.proofs.Common.{sym, ◌∙◌, ap, inl, inr, arith, take}
use Rattle.std.proofs.lemmas.List.{take_all, take-take, length-take-le}
use Rattle.base_values.proofs.Bools.{split}
use Rattle.aud_order.specs.Cursors.{CursorOf}
use Rattle.cert_earlier.proofs.Placing.{cursor_at}

-- a cursor that went back, not below a depth
pub record IsBack (start cur : CursorOf) (depth : ℕ) : Type 0 where
  pub within : length cur.path ≤ length start.path
  pub above : depth ≤ length cur.path
  pub back : cur ≡ cursor_at start (take (length cur.path) start.path)

pub back-start : (start cur : CursorOf) (depth : ℕ) → cur ≡ start → depth ≤ length start.path → IsBack start cur depth
back-start start cur depth is above =
    let long : length cur.path ≡ length start.path = ap (λ (c : CursorOf). length c.path) is in record {
      within = omega arith;
      above = omega arith;
      back = is ∙ ap (λ l. cursor_at start l) (sym (take_all (length cur.path) start.path (omega arith)));
    }

pub back-more : (start old new : CursorOf) (depth : ℕ) (b : Bool) → IsBack start old depth → depth < length old.path →
    (b ≡ false → (old.path ≡ []) × (new ≡ old)) → (b ≡ true → (old.path ≢ []) × (new ≡ cursor_at old (take (length old.path - 1) old.path))) →
    IsBack start new depth
back-more start old new depth b was deep root back =
    elim (split b) [
      | inl holds ↦ gone (back holds).1
      | inr fails ↦ let none : length old.path ≡ 0 = ap length (root fails).0 in absurd (omega arith)
    ]
  where
    gone : new ≡ cursor_at old (take (length old.path - 1) old.path) → IsBack start new depth
    gone is =
        let path : old.path ≡ take (length old.path) start.path = ap (λ (c : CursorOf). c.path) was.back in
        let long : length new.path ≡ length old.path - 1 = ap (λ (c : CursorOf). length c.path) is ∙ length-take-le (length old.path - 1) old.path (omega arith) in record {
          within = let a = was.within in omega arith;
          above = omega arith;
          back =
              is ∙ ap (λ (c : CursorOf). cursor_at c (take (length old.path - 1) old.path)) was.back
              ∙ ap (λ l. cursor_at start (take (length old.path - 1) l)) path
              ∙ ap (λ l. cursor_at start l) (take-take (length old.path - 1) (length old.path) start.path (omega arith))
              ∙ ap (λ (k : ℕ). cursor_at start (take k start.path)) (sym long);
        }

pub back-end : (start cur : CursorOf) (depth : ℕ) → IsBack start cur depth → length cur.path ≤ depth → cur ≡ cursor_at start (take depth start.path)
back-end start cur depth was done =
    let a = was.above in
    let long : length cur.path ≡ depth = omega arith in
    was.back ∙ ap (λ (k : ℕ). cursor_at start (take k start.path)) long
