-- Lists of the same parts, and what two equal lists begin with.
use Rattle.std.proofs.Common.{◌≡◌, List, ◌∷◌, ◌++◌, drop, ap, ◌↔◌}

pub tails_same : {T : Type 0} {P : Type 0} (x y : T) (xs ys : List T) → x ≡ y → P ↔ (x ∷ xs ≡ y ∷ ys) → P ↔ (xs ≡ ys)
tails_same x y xs ys e p = (λ h. ap (drop 1) (p.0 h), λ t. p.1 (λ i. e i ∷ t i))

pub heads_same : {T : Type 0} (x y : T) (xs ys : List T) → x ∷ xs ≡ y ∷ ys → x ≡ y
heads_same x y xs ys e = cc

pub parts_same : {T : Type 0} (x y : T) (ls ms rs ss : List T) → ls ≡ ms → x ≡ y → rs ≡ ss → ls ++ x ∷ rs ≡ ms ++ y ∷ ss
parts_same x y ls ms rs ss l e r = λ i. l i ++ e i ∷ r i
