-- Small facts on results and options.
use Rattle.std.proofs.Common.{◌≡◌, Some, None, sym, Result, Ok, Err, IfOk, OnOk, OnErr}

pub none≢some : {X : Type 0} (x : X) → None ≡ Some x → ⊥
none≢some x e = cc

ok≢err : {X Y : Type 0} (x : X) (y : Y) → Ok x ≡ Err y → ⊥
ok≢err x y e = cc

pub err_of : {X Y : Type 0} (r : Result X Y) (y : Y) (Q : Type 0) → r ≡ Err y → OnErr r Q → Q
err_of (Ok x) y Q e h = absurd (ok≢err x y e)
err_of (Err z) y Q e h = h

pub ok_of : {X Y : Type 0} (r : Result X Y) (x : X) (Q : Type 0) → r ≡ Ok x → OnOk r Q → Q
ok_of (Ok z) x Q e h = h
ok_of (Err y) x Q e h = absurd (ok≢err x y (sym e))

pub on_ok : {X Y : Type 0} (r : Result X Y) (P Q : Type 0) → (P → Q) → OnOk r P → OnOk r Q
on_ok (Ok x) P Q f h = f h
on_ok (Err y) P Q f h = h

pub on_err : {X Y : Type 0} (r : Result X Y) (P Q : Type 0) → (P → Q) → OnErr r P → OnErr r Q
on_err (Ok x) P Q f h = h
on_err (Err y) P Q f h = f h

pub err_anyway : {X Y : Type 0} (r : Result X Y) (Q : Type 0) → Q → OnErr r Q
err_anyway (Ok x) Q q = tt
err_anyway (Err y) Q q = q

pub if_both : {X Y : Type 0} (r : Result X Y) (P Q S : X → Type 0) → ((x : X) → P x → Q x → S x) → IfOk r P → IfOk r Q → IfOk r S
if_both (Ok x) P Q S f h k = f x h k
if_both (Err y) P Q S f h k = tt

pub both_ways_out : {X Y : Type 0} (r : Result X Y) (P Q S : Type 0) → (P → S) → (Q → S) → OnOk r P → OnErr r Q → S
both_ways_out (Ok x) P Q S f g h k = f h
both_ways_out (Err y) P Q S f g h k = g k
