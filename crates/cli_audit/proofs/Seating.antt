-- The seats of new nodes, and of the same passes later.
use Rattle.std.proofs.Common.{◌≡◌, ◌≢◌, ◌<◌, ◌+◌, ◌++◌, ◌∷◌, [], ℕ, zero, suc, List, None, length, map, get_or, set, sym, ap, subst, refl, ◌∙◌, arith, length-append}
use Rattle.std.proofs.lemmas.List.{map-append, get_or_append_left, get_or_default, get_or-set_same, get_or-set_other, length-set}
use Rattle.std.proofs.lemmas.List.Elements.{All-append, All-cons, All-nil}
use Rattle.std.proofs.Math.Seq.{get_or-append_seam}
use mathlib.Core.Logic.{dite}
use native.Mathlib.Decide.{ℕ_discrete}
use Rattle.aud_node.specs.Faults.{AreAt, HasSeat, HasSeats, IsCloseFault, MayClose}
use Rattle.aud_node.specs.declared.fault.CloseFault.{CloseFault}
use Rattle.aud_node.specs.declared.fault.CloseFault.TheVariants as close
use Rattle.aud_node.specs.Logs.{upto}
use Rattle.aud_node.specs.Meanings.{NodeOf, PassOf, first_pass}
use Rattle.aud_gossip.specs.Receiving.{GoesFurther}
use Rattle.aud_gossip.proofs.Offering.{further_self}
use Rattle.aud_order.specs.Shapes.{ShapeOf}
use Rattle.node_pool.specs.Workers.{IsCrew}
use Rattle.aud_split.specs.Pools.{HaveSearched}
use Rattle.cli_audit.specs.Seats.{AreCollectors, AreLater, AreSeats, CrewOf, CollectorOf, IsCrewAt, IsCollectorAt, IsSameSeat, IsTakenOf}

-- # A new node

pub count_of : (number n : ℕ) → length (map (first_pass number) (upto n)) ≡ n
count_of number zero = refl
count_of number (suc n) =
    let here : length (map (first_pass number) (upto n) ++ first_pass number n ∷ []) ≡ length (map (first_pass number) (upto n)) + 1 = length-append (map (first_pass number) (upto n)) (first_pass number n ∷ []) in
    let before = count_of number n in
    ap length (map-append (first_pass number) (upto n) (n ∷ [])) ∙ here ∙ omega (arith, before)

seat_of : (number n k : ℕ) (p : PassOf) → k < n → get_or (map (first_pass number) (upto n)) k p ≡ first_pass number k
seat_of number zero k p lt = absurd (omega arith)
seat_of number (suc n) k p lt =
    let made = map (first_pass number) (upto n) in
    let count : length made ≡ n = count_of number n in
    let last : k ≡ n → get_or (made ++ first_pass number n ∷ []) k p ≡ first_pass number k
    = λ e. subst (λ (j : ℕ). get_or (made ++ first_pass number n ∷ []) j p ≡ first_pass number j) (sym e)
    (subst (λ (j : ℕ). get_or (made ++ first_pass number n ∷ []) j p ≡ first_pass number n) count (get_or-append_seam made (first_pass number n) [] p)) in
    let other : k ≢ n → get_or (made ++ first_pass number n ∷ []) k p ≡ first_pass number k
    = λ ne. get_or_append_left made (first_pass number n ∷ []) p k (omega (arith, lt, ne, count)) ∙ seat_of number n k p (omega (arith, lt, ne)) in
    ap (λ (l : List PassOf). get_or l k p) (map-append (first_pass number) (upto n) (n ∷ [])) ∙ dite (ℕ_discrete k n) last other

pub seated_collector : (number n : ℕ) (p : PassOf) (ps : List PassOf) → p ∷ ps ≡ map (first_pass number) (upto n) → HasSeat number 0 p
seated_collector number n p ps e =
    let count : suc (length ps) ≡ n = ap length e ∙ count_of number n in
    let is : p ≡ first_pass number 0 = ap (λ (l : List PassOf). get_or l 0 p) e ∙ seat_of number n 0 p (omega (arith, count)) in
    (ap (λ (q : PassOf). q.number) is, ap (λ (q : PassOf). q.seat) is)

pub seated_crew : (n : NodeOf) (c : CrewOf) (p : PassOf) (workers : ℕ) → n.seats ≡ workers + 1 → IsCrew workers → c.taken ≡ None →
    p ∷ c.passes ≡ map (first_pass n.number) (upto (workers + 1)) → IsCrewAt n c
seated_crew n c p workers seats crew none e =
    let count : suc (length c.passes) ≡ workers + 1 = ap length e ∙ count_of n.number (workers + 1) in
    record {
      seats = λ k d lt.
          let is : get_or c.passes k d ≡ first_pass n.number (suc k) = ap (λ (l : List PassOf). get_or l (suc k) d) e ∙ seat_of n.number (workers + 1) (suc k) d (omega (arith, count, lt)) in
          let next : suc k ≡ 1 + k = omega arith in
          (ap (λ (q : PassOf). q.number) is, ap (λ (q : PassOf). q.seat) is ∙ next);
      count = omega (arith, count, seats);
      workers = (omega (arith, count, crew.0), omega (arith, count, crew.1));
      taken = subst (λ o. IsTakenOf n.plan o) (sym none) tt;
    }

-- # The same passes later

later_count : (s : ShapeOf) (old new : List PassOf) → HaveSearched s old new → length new ≡ length old
later_count s [] [] h = refl
later_count s [] (q ∷ qs) h = absurd h
later_count s (p ∷ ps) [] h = absurd h
later_count s (p ∷ ps) (q ∷ qs) (one, rest) = ap suc (later_count s ps qs rest)

later_at : (s : ShapeOf) (old new : List PassOf) (k : ℕ) (x y : PassOf) → HaveSearched s old new → k < length old → GoesFurther (get_or old k x) (get_or new k y)
later_at s [] new k x y h lt = absurd (omega arith)
later_at s (p ∷ ps) [] k x y h lt = absurd h
later_at s (p ∷ ps) (q ∷ qs) zero x y (one, rest) lt = (one.view, one.number, one.seat)
later_at s (p ∷ ps) (q ∷ qs) (suc k) x y (one, rest) lt = later_at s ps qs k x y rest (omega arith)

pub searched_later : (s : ShapeOf) (old new : List PassOf) → HaveSearched s old new → AreLater old new
searched_later s old new h = record { count = later_count s old new h; each = λ k x y lt. later_at s old new k x y h lt }

pub later_self : (old : List PassOf) → AreLater old old
later_self old = record { count = refl; each = λ k x y lt. subst (λ (q : PassOf). GoesFurther (get_or old k x) q) (get_or_default old k x y lt) (further_self (get_or old k x)) }

pub seats_later : (number from : ℕ) (old new : List PassOf) → AreLater old new → AreSeats number from old → AreSeats number from new
seats_later number from old new later seats k d lt =
    let count = later.count in
    let inside : k < length old = omega (arith, lt, count) in
    let further = later.each k d d inside in
    let seat = seats k d inside in
    (further.1 ∙ seat.0, further.2 ∙ seat.1)

pub crew_later : (n : NodeOf) (old new : CrewOf) → IsCrewAt n old → AreLater old.passes new.passes → IsTakenOf n.plan new.taken → IsCrewAt n new
crew_later n old new at later taken =
    let count = later.count in
    record {
      seats = seats_later n.number 1 old.passes new.passes later at.seats;
      count = at.count ∙ ap (λ (k : ℕ). k + 1) (sym count);
      workers = subst IsCrew (sym count) at.workers;
      taken = taken;
    }

pub crew_at : (n : NodeOf) (c : CrewOf) → IsCrewAt n c → AreAt n.number c.passes
crew_at n c at k d lt = (at.seats k d lt).0

-- # Closing

pub may_close : (n : NodeOf) (d : CollectorOf) (c : CrewOf) (all : List PassOf) → all ≡ c.passes ++ d.pass ∷ [] → IsCollectorAt n d → IsCrewAt n c → MayClose n all
may_close n d c all is collector crew = subst (λ (l : List PassOf). MayClose n l) (sym is) (seats, at)
  where
    count : length (c.passes ++ d.pass ∷ []) ≡ length c.passes + 1
    count = length-append c.passes (d.pass ∷ [])

    seam : (x : PassOf) → get_or (c.passes ++ d.pass ∷ []) (length c.passes) x ≡ d.pass
    seam x = get_or-append_seam c.passes d.pass [] x

    seats : HasSeats n.number n.seats (c.passes ++ d.pass ∷ [])
    seats zero lt = (length c.passes, d.pass, omega (arith, count), seam d.pass, collector)
    seats (suc k) lt =
        let inside : k < length c.passes = (let seats = crew.count in omega (arith, lt, seats)) in
        let x = get_or c.passes k d.pass in
        let next : 1 + k ≡ suc k = omega arith in
        (k, x, omega (arith, inside, count), get_or_append_left c.passes (d.pass ∷ []) x k inside ∙ get_or_default c.passes k x d.pass inside, subst (λ (j : ℕ). HasSeat n.number j x) next (crew.seats k d.pass inside))

    at : AreAt n.number (c.passes ++ d.pass ∷ [])
    at = All-append (λ (p : PassOf). p.number ≡ n.number) c.passes (d.pass ∷ []) (crew_at n c crew) (All-cons (λ (p : PassOf). p.number ≡ n.number) d.pass [] collector.0 (All-nil (λ (p : PassOf). p.number ≡ n.number)))

-- a node whose collector and crew are at hand is refused only where memory ran out
pub close_fault : (n : NodeOf) (d : CollectorOf) (c : CrewOf) (all : List PassOf) (e : CloseFault) → all ≡ c.passes ++ d.pass ∷ [] → IsCollectorAt n d → IsCrewAt n c → IsCloseFault n all e → e ≡ close.OutOfMemory
close_fault n d c all close.OutOfMemory is collector crew fault = refl
close_fault n d c all (close.PassMissing seat) is collector crew (low, before, missing) =
    let (k, p, inside, there, seated) = (may_close n d c all is collector crew).0 seat low in
    absurd (missing k p inside (subst (HasSeat n.number seat) (sym there) seated))
close_fault n d c all (close.ForeignPass index) is collector crew (seats, (inside, before, foreign)) =
    absurd (foreign d.pass ((may_close n d c all is collector crew).1 index d.pass inside))

-- # One changed

-- a collector may stand in for another at its place
pub collector_set : (nodes : List NodeOf) (collectors : List CollectorOf) (k : ℕ) (d : CollectorOf) → AreCollectors nodes collectors → ((old : CollectorOf) → k < length nodes → IsSameSeat (get_or collectors k old).pass d.pass) → AreCollectors nodes (set collectors k d)
collector_set nodes collectors k d all same = record {
  count = length-set collectors k d ∙ all.count;
  each = λ j x y lt. dite (ℕ_discrete j k) (here j x y lt) (there j x y lt);
}
  where
    here : (j : ℕ) (x : NodeOf) (y : CollectorOf) → j < length nodes → j ≡ k → IsCollectorAt (get_or nodes j x) (get_or (set collectors k d) j y)
    here j x y lt e =
        let count = all.count in
        let inside : k < length collectors = omega (arith, lt, e, count) in
        let is : get_or (set collectors k d) j y ≡ d = ap (λ (i : ℕ). get_or (set collectors k d) i y) e ∙ get_or-set_same collectors k d y inside in
        let at : IsCollectorAt (get_or nodes j x) (get_or collectors j y) = all.each j x y lt in
        let kept : IsSameSeat (get_or collectors j y).pass d.pass = subst (λ (i : ℕ). IsSameSeat (get_or collectors i y).pass d.pass) (sym e) (same y (omega (arith, lt, e))) in
        subst (λ (v : CollectorOf). IsCollectorAt (get_or nodes j x) v) (sym is) (kept.0 ∙ at.0, kept.1 ∙ at.1)

    there : (j : ℕ) (x : NodeOf) (y : CollectorOf) → j < length nodes → j ≢ k → IsCollectorAt (get_or nodes j x) (get_or (set collectors k d) j y)
    there j x y lt ne = subst (λ (v : CollectorOf). IsCollectorAt (get_or nodes j x) v) (sym (get_or-set_other collectors k j d y ne)) (all.each j x y lt)

-- one pass goes further, and the others are as they were
pub set_later : (old : List PassOf) (k : ℕ) (q : PassOf) → ((d : PassOf) → k < length old → GoesFurther (get_or old k d) q) → AreLater old (set old k q)
set_later old k q further = record {
  count = length-set old k q;
  each = λ j x y lt. dite (ℕ_discrete j k) (here j x y lt) (there j x y lt);
}
  where
    here : (j : ℕ) (x y : PassOf) → j < length old → j ≡ k → GoesFurther (get_or old j x) (get_or (set old k q) j y)
    here j x y lt e =
        let inside : k < length old = omega (arith, lt, e) in
        let is : get_or (set old k q) j y ≡ q = ap (λ (i : ℕ). get_or (set old k q) i y) e ∙ get_or-set_same old k q y inside in
        subst (λ (v : PassOf). GoesFurther (get_or old j x) v) (sym is) (subst (λ (i : ℕ). GoesFurther (get_or old i x) q) (sym e) (further x inside))

    there : (j : ℕ) (x y : PassOf) → j < length old → j ≢ k → GoesFurther (get_or old j x) (get_or (set old k q) j y)
    there j x y lt ne =
        let is : get_or (set old k q) j y ≡ get_or old j x = get_or-set_other old k j q y ne ∙ get_or_default old j y x lt in
        subst (λ (v : PassOf). GoesFurther (get_or old j x) v) (sym is) (further_self (get_or old j x))
