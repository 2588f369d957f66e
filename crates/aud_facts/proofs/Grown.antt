-- A sealed set that gains a fact is in conflict.
use Rattle.std.proofs.Common.{◌≡◌, ℕ, suc, ◌+◌, ◌<◌, ◌≤◌, ◌⊎◌, inl, inr, List, [], ◌∷◌, length, refl, sym, ap, ◌∙◌, arith}
use Rattle.std.specs.Prelude.{⊤, Bool, true, false, not, ◌||◌, ◌&&◌, if◌then◌else◌, Option, Some, None, nat_le, nat_eq, map}
use Rattle.std.specs.List.{AllByRecursion, list_any, filter}
use Rattle.base_sorted.specs.Sets.{has, with_item, by_order}
use Rattle.std.specs.declared.cmp.Ordering.{Ordering}
use Rattle.std.specs.declared.cmp.Ordering.TheVariants.{Less, Equal, Greater}
use Rattle.std.specs.Ordering.{is_eq}
use Rattle.std.proofs.lemmas.Bool.{cases_lt}
use Rattle.aud_event.specs.Meanings.{PlanOf}
use Rattle.aud_event.specs.Facts.{first_fact_fault}
use Rattle.aud_event.specs.declared.fact.FactFault.{FactFault}
use Rattle.aud_event.specs.declared.fact.Record.{Record}
use Rattle.aud_event.specs.declared.fact.EndMark.{EndMark}
use Rattle.aud_event.specs.declared.fact.Fact.{Fact}
use Rattle.aud_event.specs.declared.fact.Fact.TheVariants.{Rec, End}
use Rattle.aud_event.specs.contracts.fact.FactOrd.TheImpl as fact
use Rattle.aud_facts.specs.declared.status.Kind.{Kind}
use Rattle.aud_facts.specs.declared.status.Kind.TheVariants.{TwoRecords, StampTwice, TwoCounts, PastCount, StampOrder}
use Rattle.aud_facts.specs.declared.status.FactStatus.{FactStatus}
use Rattle.aud_facts.specs.Clashes.{Place, conflict, clashes, is_against, is_same, is_place, place_of, least_place, least_with}
use Rattle.aud_facts.specs.Growth.{IsConflict, SealedIsFull}
use Rattle.aud_facts.specs.Order.{AreOrdered}
use Rattle.aud_facts.specs.Status.{fact_status, is_waiting, is_record_of, is_mark_within, count, reported}
use Rattle.aud_facts.specs.Scans.{is_past, first_place}
use Rattle.aud_facts.proofs.Ordered.{ordered, same_self}
use Rattle.aud_facts.proofs.Conflicts.{any_same, all_map, Strict, Beyond, strict, twins_is, past_is}
use Rattle.aud_facts.proofs.Sealing.{not_first, IsSealed, sealed_says, none_below}
use Rattle.base_values.proofs.Bools.{unnegated, or_right, true_or, or_false}

-- a conflict of some kind is reported
reported_after : (k : Kind) (o : Option Place) (s : FactStatus) → IsConflict s → IsConflict (reported k o s)
reported_after k None s c = c
reported_after k (Some p) s c = tt

reported_here : (k : Kind) (o : Option Place) (s : FactStatus) → (o ≡ None → ⊥) → IsConflict (reported k o s)
reported_here k None s c = absurd (c refl)
reported_here k (Some p) s c = tt

pub in_conflict : (k : Kind) (logs : ℕ) (facts : List Fact) → (conflict k facts ≡ None → ⊥) → IsConflict (fact_status logs facts)
in_conflict TwoRecords logs facts c = reported_here TwoRecords (conflict TwoRecords facts) _ c
in_conflict StampTwice logs facts c = reported_after TwoRecords (conflict TwoRecords facts) _ (reported_here StampTwice (conflict StampTwice facts) _ c)
in_conflict TwoCounts logs facts c = reported_after TwoRecords (conflict TwoRecords facts) _ (reported_after StampTwice (conflict StampTwice facts) _ (reported_here TwoCounts (conflict TwoCounts facts) _ c))
in_conflict PastCount logs facts c =
    reported_after TwoRecords (conflict TwoRecords facts) _ (reported_after StampTwice (conflict StampTwice facts) _ (reported_after TwoCounts (conflict TwoCounts facts) _
    (reported_here PastCount (conflict PastCount facts) _ c)))
in_conflict StampOrder logs facts c =
    reported_after TwoRecords (conflict TwoRecords facts) _ (reported_after StampTwice (conflict StampTwice facts) _ (reported_after TwoCounts (conflict TwoCounts facts) _
    (reported_after PastCount (conflict PastCount facts) _ (reported_here StampOrder (conflict StampOrder facts) _ c))))

least_some : (p : Place) (o : Option Place) → least_with p o ≡ None → ⊥
least_some p None e = cc
least_some p (Some q) e = cc

passes_step : (f : Fact) (fs : List Fact) (b c : Bool) → least_place (map place_of (if b then f ∷ fs else fs)) ≡ None → (least_place (map place_of fs) ≡ None → c ≡ false) → (b || c) ≡ false
passes_step f fs true c e h = absurd (least_some (place_of f) (least_place (map place_of fs)) e)
passes_step f fs false c e h = h e

pub none_passes : (t : Fact → Bool) (xs : List Fact) → least_place (map place_of (filter t xs)) ≡ None → list_any t xs ≡ false
none_passes t [] e = refl
none_passes t (x ∷ xs) e = passes_step x (filter t xs) (t x) (list_any t xs) e (none_passes t xs)

-- what passes in the larger set
or_mid : (a b c : Bool) → (b || (a || c)) ≡ (a || (b || c))
or_mid true true c = refl
or_mid true false c = refl
or_mid false b c = refl

any_ordered : (t : Fact → Bool) (f x : Fact) (xs ys : List Fact) (o : Ordering) → (is_eq o ≡ false) → list_any t ys ≡ (t f || list_any t xs) →
    list_any t (by_order o (f ∷ x ∷ xs) (x ∷ xs) (x ∷ ys)) ≡ (t f || (t x || list_any t xs))
any_ordered t f x xs ys Less e h = refl
any_ordered t f x xs ys Equal e h = cc
any_ordered t f x xs ys Greater e h = rw h (or_mid (t f) (t x) (list_any t xs))

any_inserted : (t : Fact → Bool) (f : Fact) (xs : List Fact) → has fact.ghosts.cmp xs f ≡ false → list_any t (with_item fact.ghosts.cmp f xs) ≡ (t f || list_any t xs)
any_inserted t f [] e = refl
any_inserted t f (x ∷ xs) e =
    let parts = or_false (is_same f x) (has fact.ghosts.cmp xs f) e in
    any_ordered t f x xs (with_item fact.ghosts.cmp f xs) (fact.ghosts.cmp f x) parts.0 (any_inserted t f xs parts.1)

clash_of : (a b : Bool) → a ≡ true → (a || b) ≡ false → ⊥
clash_of true b h g = cc
clash_of false b h g = cc

grown : (k : Kind) (logs : ℕ) (f : Fact) (xs : List Fact) → has fact.ghosts.cmp xs f ≡ false → list_any (clashes k f) xs ≡ true → IsConflict (fact_status logs (with_item fact.ghosts.cmp f xs))
grown k logs f xs new e =
    in_conflict k logs (with_item fact.ghosts.cmp f xs) (λ nothing. both nothing)
  where
    against : is_against k (with_item fact.ghosts.cmp f xs) f ≡ true
    against = any_inserted (clashes k f) f xs new ∙ or_right (clashes k f f) (list_any (clashes k f) xs) e

    both : conflict k (with_item fact.ghosts.cmp f xs) ≡ None → ⊥
    both nothing =
        let no : list_any (is_against k (with_item fact.ghosts.cmp f xs)) (with_item fact.ghosts.cmp f xs) ≡ false = none_passes (is_against k (with_item fact.ghosts.cmp f xs)) (with_item fact.ghosts.cmp f xs) nothing in
        let some = any_inserted (is_against k (with_item fact.ghosts.cmp f xs)) f xs new in
        clash_of (is_against k (with_item fact.ghosts.cmp f xs) f) (list_any (is_against k (with_item fact.ghosts.cmp f xs)) xs) against (sym some ∙ no)

-- Another end mark of the log.

or_either : (a b c d : Bool) → (a ≡ true → c ≡ false → d ≡ true) → {u v w : Bool} → (u ≡ true → v ≡ false → w ≡ true) → (a || u) ≡ true → (c || v) ≡ false → (d || w) ≡ true
or_either true b true d h t ea eb = cc
or_either true b false d h t ea eb = rw (h refl refl) refl
or_either false b true d h t ea eb = cc
or_either false b false d h t ea eb = or_right d _ (t ea eb)

other_mark : (e : EndMark) (n : ℕ) (g : Fact) → is_mark_within e.log n g ≡ true → is_same (End e) g ≡ false → clashes TwoCounts (End e) g ≡ true
other_mark e n (Rec r) h d = cc
other_mark e n (End g) h d = counted (nat_eq e.count g.count) refl
  where
    same_log : g.log ≡ e.log
    same_log = grind (arith, h)

    counted : (b : Bool) → nat_eq e.count g.count ≡ b → (nat_eq e.log g.log && not b) ≡ true
    counted true c = absurd (reported_same (grind (arith, c)))
      where
        reported_same : e.count ≡ g.count → ⊥
        reported_same c =
            let path : e ≡ g = λ i. record { log = sym same_log i; count = c i } in
            let t : true ≡ false = sym (same_self (End e)) ∙ (ap (λ (k : EndMark). is_same (End e) (End k)) path ∙ d) in
            cc
    counted false c = grind (arith, same_log)

any_other : (e : EndMark) (n : ℕ) (xs : List Fact) → list_any (is_mark_within e.log n) xs ≡ true → has fact.ghosts.cmp xs (End e) ≡ false → list_any (clashes TwoCounts (End e)) xs ≡ true
any_other e n [] h d = cc
any_other e n (x ∷ xs) h d =
    or_either (is_mark_within e.log n x) true (is_same (End e) x) (clashes TwoCounts (End e) x) (other_mark e n x)
    {u = list_any (is_mark_within e.log n) xs} {v = has fact.ghosts.cmp xs (End e)} {w = list_any (clashes TwoCounts (End e)) xs} (any_other e n xs) h d

-- Places that ascend below c and are at least c many leave none out.

abbrev Up : ℕ → List ℕ → Type 0
Up lo [] = ⊤
Up lo (p ∷ ps) = (lo ≤ p) × Up (suc p) ps

room : (ps : List ℕ) (lo c : ℕ) → lo ≤ c → Up lo ps → AllByRecursion (λ p. p < c) ps → lo + length ps ≤ c
room [] lo c le u a = omega arith
room (p ∷ ps) lo c le u a = let rest = room ps (suc p) c (omega (arith, a.0)) u.1 a.1 in omega (arith, rest, u.0)

pigeon : (ps : List ℕ) (lo c k : ℕ) → Up lo ps → AllByRecursion (λ p. p < c) ps → c ≤ lo + length ps → lo ≤ k → k < c → list_any (λ p. nat_eq p k) ps ≡ true
pigeon [] lo c k u a long le lt = absurd (omega arith)
pigeon (p ∷ ps) lo c k u a long le lt =
    let rest = room ps (suc p) c (omega (arith, a.0)) u.1 a.1 in
    let first : p ≡ lo = omega (arith, rest, u.0) in
    elim (cases_lt p k) [
      | inl below ↦ or_right (nat_eq p k) _ (pigeon ps (suc p) c k u.1 a.1 (omega (arith, first)) (omega (arith, below)) lt)
      | inr same ↦ first_is (omega (arith, first, same))
    ]
  where
    first_is : p ≡ k → (nat_eq p k || list_any (λ p. nat_eq p k) ps) ≡ true
    first_is e = let here : nat_eq p k ≡ true = grind (arith, e) in rw here refl

-- the places of a log's records
abbrev if_in : Bool → ℕ → List ℕ → List ℕ
if_in true p ps = p ∷ ps
if_in false p ps = ps

abbrev places : ℕ → List Fact → List ℕ
places log [] = []
places log (Rec r ∷ xs) = if_in (nat_eq r.log log) r.at (places log xs)
places log (End e ∷ xs) = places log xs

abbrev AtLeast : ℕ → ℕ → Fact → Type 0
AtLeast log lo (Rec r) = r.log ≡ log → lo ≤ r.at
AtLeast log lo (End e) = ⊤

all_from_0 : (log : ℕ) (xs : List Fact) → AllByRecursion (AtLeast log 0) xs
all_from_0 log [] = tt
all_from_0 log (Rec r ∷ xs) = ((λ e. omega arith), all_from_0 log xs)
all_from_0 log (End e ∷ xs) = (tt, all_from_0 log xs)

past_mark : (r : Record) (g : Fact) → is_mark_within r.log r.at g ≡ clashes PastCount (Rec r) g
past_mark r (Rec s) = refl
past_mark r (End e) = refl

any_past : (r : Record) (xs : List Fact) → list_any (is_mark_within r.log r.at) xs ≡ true → list_any (clashes PastCount (Rec r)) xs ≡ true
any_past r xs h = any_same (clashes PastCount (Rec r)) (is_mark_within r.log r.at) xs (λ g. sym (past_mark r g)) ∙ h

abbrev log_of : Fact → ℕ
log_of (Rec r) = r.log
log_of (End e) = e.log

counted_step : (f : Fact) (fs : List Fact) (p : ℕ) (ps : List ℕ) (b : Bool) → length ps ≡ length fs → length (if_in b p ps) ≡ length (if b then f ∷ fs else fs)
counted_step f fs p ps true e = ap suc e
counted_step f fs p ps false e = e

places_counted : (log : ℕ) (xs : List Fact) → length (places log xs) ≡ count (is_record_of log) xs
places_counted log [] = refl
places_counted log (Rec r ∷ xs) = counted_step (Rec r) (filter (is_record_of log) xs) r.at (places log xs) (nat_eq r.log log) (places_counted log xs)
places_counted log (End e ∷ xs) = places_counted log xs

at_least : (r : Record) (log : ℕ) (f : Fact) → r.log ≡ log → Beyond (Rec r) f → AtLeast log (suc r.at) f
at_least r log (Rec s) e (inl b) = λ same. absurd (omega (arith, e, b, same))
at_least r log (Rec s) e (inr b) = λ same. omega (arith, b)
at_least r log (End g) e b = tt

up_step : (r : Record) (log lo : ℕ) (ps : List ℕ) (b : Bool) → nat_eq r.log log ≡ b → (r.log ≡ log → lo ≤ r.at) → (r.log ≡ log → Up (suc r.at) ps) → Up lo ps → Up lo (if_in b r.at ps)
up_step r log lo ps true e first next other = let same : r.log ≡ log = grind (arith, e) in (first same, next same)
up_step r log lo ps false e first next other = other

places_up : (log lo : ℕ) (xs : List Fact) → Strict xs → AllByRecursion (AtLeast log lo) xs → Up lo (places log xs)
places_up log lo [] s a = tt
places_up log lo (Rec r ∷ xs) s a =
    up_step r log lo (places log xs) (nat_eq r.log log) refl a.0
    (λ same. places_up log (suc r.at) xs s.1 (all_map (λ f b. at_least r log f same b) xs s.0)) (places_up log lo xs s.1 a.1)
places_up log lo (End e ∷ xs) s a = places_up log lo xs s.1 a.1

below_step : (all : List Fact) (r : Record) (log c : ℕ) (ps : List ℕ) (b : Bool) → nat_eq r.log log ≡ b → ((m : ℕ) → c ≤ m → list_any (is_mark_within log m) all ≡ true) →
    list_any (is_mark_within r.log r.at) all ≡ false → AllByRecursion (λ p. p < c) ps → AllByRecursion (λ p. p < c) (if_in b r.at ps)
below_step all r log c ps true e h past rest = (lower (cases_lt r.at c), rest)
  where
    never : true ≡ false → ⊥
    never t = cc

    lower : (r.at < c) ⊎ (c ≤ r.at) → r.at < c
    lower (inl lt) = lt
    lower (inr le) =
        let same : r.log ≡ log = grind (arith, e) in
        let t : true ≡ false = sym (h r.at le) ∙ (rw (← same) past) in
        absurd (never t)
below_step all r log c ps false e h past rest = rest

places_below : (all : List Fact) (log c : ℕ) (xs : List Fact) → ((m : ℕ) → c ≤ m → list_any (is_mark_within log m) all ≡ true) → first_place (is_past all) xs ≡ None → AllByRecursion (λ p. p < c) (places log xs)
places_below all log c [] h e = tt
places_below all log c (Rec r ∷ xs) h e =
    let parts = not_first (r.log, r.at) (first_place (is_past all) xs) (is_past all (Rec r)) e in
    below_step all r log c (places log xs) (nat_eq r.log log) refl h parts.0 (places_below all log c xs h parts.1)
places_below all log c (End g ∷ xs) h e = places_below all log c xs h e

there_step : (r s : Record) (ps : List ℕ) (later b : Bool) → nat_eq s.log r.log ≡ b → list_any (λ p. nat_eq p r.at) (if_in b s.at ps) ≡ true →
    is_same (Rec r) (Rec s) ≡ false → (list_any (λ p. nat_eq p r.at) ps ≡ true → later ≡ true) → (clashes TwoRecords (Rec r) (Rec s) || later) ≡ true
there_step r s ps later false e h d next = or_right (clashes TwoRecords (Rec r) (Rec s)) later (next h)
there_step r s ps later true e h d next = by_place (nat_eq s.at r.at) refl h
  where
    by_place : (b : Bool) → nat_eq s.at r.at ≡ b → (b || list_any (λ p. nat_eq p r.at) ps) ≡ true → (clashes TwoRecords (Rec r) (Rec s) || later) ≡ true
    by_place true at h = let same : is_place r s ≡ true = grind (arith, e, at) in rw (same, d) refl
    by_place false at h = or_right (clashes TwoRecords (Rec r) (Rec s)) later (next h)

record_there : (r : Record) (xs : List Fact) → list_any (λ p. nat_eq p r.at) (places r.log xs) ≡ true → has fact.ghosts.cmp xs (Rec r) ≡ false → list_any (clashes TwoRecords (Rec r)) xs ≡ true
record_there r [] h d = cc
record_there r (Rec s ∷ xs) h d =
    let parts = or_false (is_same (Rec r) (Rec s)) (has fact.ghosts.cmp xs (Rec r)) d in
    there_step r s (places r.log xs) (list_any (clashes TwoRecords (Rec r)) xs) (nat_eq s.log r.log) refl h parts.0 (λ later. record_there r xs later parts.1)
record_there r (End e ∷ xs) h d = record_there r xs h (or_false (is_same (Rec r) (End e)) (has fact.ghosts.cmp xs (Rec r)) d).1

record Mark (log n : ℕ) (xs : List Fact) : Type 0 where
  counted : ℕ
  within : counted ≤ n
  reached : (m : ℕ) → counted ≤ m → list_any (is_mark_within log m) xs ≡ true

later_mark : (log n : ℕ) (e : EndMark) (xs : List Fact) → Mark log n xs → Mark log n (End e ∷ xs)
later_mark log n e xs m = record {
  counted = m.counted;
  within = m.within;
  reached = λ k le. or_right (nat_eq e.log log && nat_le e.count k) (list_any (is_mark_within log k) xs) (m.reached k le);
}

mark_of : (log n : ℕ) (xs : List Fact) → list_any (is_mark_within log n) xs ≡ true → Mark log n xs
mark_of log n [] h = cc
mark_of log n (Rec r ∷ xs) h = let m = mark_of log n xs h in record { counted = m.counted; within = m.within; reached = m.reached }
mark_of log n (End e ∷ xs) h = by_mark (nat_eq e.log log && nat_le e.count n) refl h (mark_of log n xs)
  where
    by_mark : (b : Bool) → (nat_eq e.log log && nat_le e.count n) ≡ b → (b || list_any (is_mark_within log n) xs) ≡ true → (list_any (is_mark_within log n) xs ≡ true → Mark log n xs) → Mark log n (End e ∷ xs)
    by_mark true at h next = record {
      counted = e.count;
      within = grind (arith, at);
      reached = λ m le. true_or (nat_eq e.log log && nat_le e.count m) (list_any (is_mark_within log m) xs) (grind (arith, at, le));
    }
    by_mark false at h next = later_mark log n e xs (next h)

faultless : (b : Bool) (x : FactFault) (o : Option FactFault) → (if b then Some x else o) ≡ None → b ≡ false
faultless true x o e = cc
faultless false x o e = refl

below_logs : (l n : ℕ) → nat_le n l ≡ false → l < n
below_logs l n e = grind (arith, e)

log_in : (plan : PlanOf) (f : Fact) → first_fact_fault plan f ≡ None → log_of f < plan.logs
log_in plan (Rec r) e = let out = faultless (nat_le plan.logs r.log) _ _ e in below_logs r.log plan.logs out
log_in plan (End g) e = let out = faultless (nat_le plan.logs g.log) _ _ e in below_logs g.log plan.logs out

full : (logs : ℕ) (facts : List Fact) (f : Fact) → AreOrdered facts → IsSealed logs facts → log_of f < logs → has fact.ghosts.cmp facts f ≡ false → IsConflict (fact_status logs (with_item fact.ghosts.cmp f facts))
full logs facts (End e) o s lt new =
    let there = unnegated (list_any (is_mark_within e.log (count (is_record_of e.log) facts)) facts) (none_below (is_waiting facts) logs s.all_in e.log lt) in
    grown TwoCounts logs (End e) facts new (any_other e (count (is_record_of e.log) facts) facts there new)
full logs facts (Rec r) o s lt new =
    let there = unnegated (list_any (is_mark_within r.log (count (is_record_of r.log) facts)) facts) (none_below (is_waiting facts) logs s.all_in r.log lt) in
    let mark = mark_of r.log (count (is_record_of r.log) facts) facts there in
    elim (cases_lt r.at mark.counted) [
      | inl below ↦ grown TwoRecords logs (Rec r) facts new (record_there r facts (at_its_place mark below) new)
      | inr past ↦ grown PastCount logs (Rec r) facts new (any_past r facts (mark.reached r.at past))
    ]
  where
    at_its_place : (mark : Mark r.log (count (is_record_of r.log) facts) facts) → r.at < mark.counted → list_any (λ p. nat_eq p r.at) (places r.log facts) ≡ true
    at_its_place mark below =
        pigeon (places r.log facts) 0 mark.counted r.at
        (places_up r.log 0 facts (strict facts (ordered facts o) (twins_is facts o ∙ s.places)) (all_from_0 r.log facts))
        (places_below facts r.log mark.counted facts mark.reached (past_is facts o ∙ s.ends))
        (omega (arith, places_counted r.log facts, mark.within)) (omega arith) below

pub sealed_is_full : SealedIsFull
sealed_is_full plan facts f o sound sealed fits new = full plan.logs facts f o (sealed_says plan.logs facts sealed) (log_in plan f fits) new
