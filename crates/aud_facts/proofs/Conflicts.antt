-- What one pass finds is the least conflict.
use Rattle.std.proofs.Common.{◌≡◌, ℕ, ◌<◌, ◌≤◌, ◌+◌, ◌⊎◌, inl, inr, List, [], ◌∷◌, length, refl, sym, ap, ◌∙◌, arith}
use Rattle.std.specs.Prelude.{⊤, Bool, true, false, ◌&&◌, ◌||◌, if◌then◌else◌, Option, Some, None, nat_lt, nat_eq}
use Rattle.std.specs.List.{AllByRecursion, list_any, filter}
use Rattle.aud_event.specs.declared.fact.Record.{Record}
use Rattle.aud_event.specs.declared.fact.EndMark.{EndMark}
use Rattle.aud_event.specs.declared.fact.Fact.{Fact}
use Rattle.aud_event.specs.declared.fact.Fact.TheVariants.{Rec, End}
use Rattle.aud_facts.specs.declared.status.Kind.{Kind}
use Rattle.aud_facts.specs.declared.status.Kind.TheVariants.{TwoRecords, StampTwice, TwoCounts, PastCount, StampOrder}
use Rattle.aud_facts.specs.Clashes.{conflict, clashes, is_against, is_place}
use Rattle.aud_facts.specs.Status.{has_stamp, is_mark_within}
use Rattle.aud_facts.specs.Order.{AreOrdered}
use Rattle.aud_facts.specs.Scans.{twins, marks_twice, falls, first_place, is_past, is_twice, is_fall}
use Rattle.aud_facts.proofs.Ordered.{After, Ordered, ordered, same_self, first_is_least}
use Rattle.aud_facts.proofs.Lists.{any-count, count-cons}

any_none : (t : Fact → Bool) (xs : List Fact) → ((f : Fact) → t f ≡ false) → list_any t xs ≡ false
any_none t [] h = refl
any_none t (x ∷ xs) h = rw (h x, any_none t xs h) refl

pub any_same : (t u : Fact → Bool) (xs : List Fact) → ((f : Fact) → t f ≡ u f) → list_any t xs ≡ list_any u xs
any_same t u [] h = refl
any_same t u (x ∷ xs) h = rw (h x, any_same t u xs h) refl

any_on : (t u : Fact → Bool) (xs : List Fact) → AllByRecursion (λ f. t f ≡ u f) xs → list_any t xs ≡ list_any u xs
any_on t u [] h = refl
any_on t u (x ∷ xs) h = rw (h.0, any_on t u xs h.1) refl

any_never : (t : Fact → Bool) (xs : List Fact) → AllByRecursion (λ f. t f ≡ false) xs → list_any t xs ≡ false
any_never t [] h = refl
any_never t (x ∷ xs) h = rw (h.0, any_never t xs h.1) refl

first_same : (t u : Fact → Bool) (xs : List Fact) → ((f : Fact) → t f ≡ u f) → first_place t xs ≡ first_place u xs
first_same t u [] h = refl
first_same t u (x ∷ xs) h = rw (h x, first_same t u xs h) refl

first_never : (t : Fact → Bool) (xs : List Fact) → AllByRecursion (λ f. t f ≡ false) xs → first_place t xs ≡ None
first_never t [] h = refl
first_never t (x ∷ xs) h = rw (h.0, first_never t xs h.1) refl

pub all_map : {P Q : Fact → Type 0} → ((f : Fact) → P f → Q f) → (xs : List Fact) → AllByRecursion P xs → AllByRecursion Q xs
all_map h [] a = tt
all_map h (x ∷ xs) a = (h x a.0, all_map h xs a.1)

-- A kind passes records alone, or end marks alone.
no_end : (k : Kind) (xs : List Fact) → ((e : EndMark) (f : Fact) → clashes k (End e) f ≡ false) → (e : EndMark) → is_against k xs (End e) ≡ false
no_end k xs h e = any_none (clashes k (End e)) xs (h e)

first_of : (k : Kind) (xs : List Fact) → ((e : EndMark) (f : Fact) → clashes k (End e) f ≡ false) → AreOrdered xs → first_place (is_against k xs) xs ≡ conflict k xs
first_of k xs h o = sym (first_is_least (is_against k xs) xs (inl (no_end k xs h)) (ordered xs o))

-- A record at or past a count.

past_at : (r : Record) (f : Fact) → clashes PastCount (Rec r) f ≡ is_mark_within r.log r.at f
past_at r (Rec s) = refl
past_at r (End e) = refl

against_past : (xs : List Fact) (f : Fact) → is_past xs f ≡ is_against PastCount xs f
against_past xs (Rec r) = sym (any_same (clashes PastCount (Rec r)) (is_mark_within r.log r.at) xs (past_at r))
against_past xs (End e) = sym (any_none (clashes PastCount (End e)) xs (λ f. end_never f))
  where
    end_never : (f : Fact) → clashes PastCount (End e) f ≡ false
    end_never (Rec s) = refl
    end_never (End g) = refl

end_past : (e : EndMark) (f : Fact) → clashes PastCount (End e) f ≡ false
end_past e (Rec s) = refl
end_past e (End g) = refl

pub past_is : (xs : List Fact) → AreOrdered xs → first_place (is_past xs) xs ≡ conflict PastCount xs
past_is xs o = first_same (is_past xs) (is_against PastCount xs) xs (against_past xs) ∙ first_of PastCount xs end_past o

-- A list in two parts, the first in any order.
record Parts (all pre xs : List Fact) : Type 0 where
  any : (t : Fact → Bool) → list_any t all ≡ (list_any t pre || list_any t xs)
  counts : (t : Fact → Bool) → length (filter t all) ≡ length (filter t pre) + length (filter t xs)

or_move : (a b c : Bool) → (a || (b || c)) ≡ ((b || a) || c)
or_move true true c = refl
or_move true false c = refl
or_move false true c = refl
or_move false false c = refl

count_move : {X : Type 0} (b : Bool) (x : X) (ys zs : List X) → length ys + length (if b then x ∷ zs else zs) ≡ length (if b then x ∷ ys else ys) + length zs
count_move true x ys zs = omega arith
count_move false x ys zs = refl

moved : (all pre : List Fact) (x : Fact) (xs : List Fact) → Parts all pre (x ∷ xs) → Parts all (x ∷ pre) xs
moved all pre x xs p = record {
  any = λ t. p.any t ∙ or_move (list_any t pre) (t x) (list_any t xs);
  counts = λ t. p.counts t ∙ count_move (t x) x (filter t pre) (filter t xs);
}

whole : (xs : List Fact) → Parts xs [] xs
whole xs = record { any = λ t. refl; counts = λ t. omega arith }

-- Records further on stand at later places.
abbrev pub StrictAt : Record → Record → Type 0
StrictAt r s = (r.log < s.log) ⊎ ((r.log ≡ s.log) × (r.at < s.at))

abbrev pub Beyond : Fact → Fact → Type 0
Beyond (Rec r) (Rec s) = StrictAt r s
Beyond (Rec r) (End e) = ⊤
Beyond (End e) f = ⊤

abbrev pub Strict : List Fact → Type 0
Strict [] = ⊤
Strict (x ∷ xs) = AllByRecursion (Beyond x) xs × Strict xs

abbrev Apart : List Fact → List Fact → Type 0
Apart pre xs = AllByRecursion (λ g. AllByRecursion (Beyond g) xs) pre

apart_tails : (x : Fact) (xs pre : List Fact) → Apart pre (x ∷ xs) → Apart pre xs
apart_tails x xs [] a = tt
apart_tails x xs (g ∷ gs) a = (a.0.1, apart_tails x xs gs a.1)

apart_heads : (x : Fact) (xs pre : List Fact) → Apart pre (x ∷ xs) → AllByRecursion (λ g. Beyond g x) pre
apart_heads x xs [] a = tt
apart_heads x xs (g ∷ gs) a = (a.0.0, apart_heads x xs gs a.1)

not_place : (r s : Record) → StrictAt r s → is_place r s ≡ false
not_place r s h = grind (arith, h)

not_place_back : (r s : Record) → StrictAt r s → is_place s r ≡ false
not_place_back r s h = grind (arith, h)

beyond_apart : (k : Kind) (r : Record) (xs : List Fact) → ((f : Fact) → Beyond (Rec r) f → clashes k (Rec r) f ≡ false) → AllByRecursion (Beyond (Rec r)) xs → list_any (clashes k (Rec r)) xs ≡ false
beyond_apart k r xs h a = any_never (clashes k (Rec r)) xs (all_map h xs a)

-- no record after another one further back
first_two : (r : Record) (f : Fact) → Beyond (Rec r) f → clashes TwoRecords (Rec r) f ≡ false
first_two r (Rec s) b = rw (not_place r s b) refl
first_two r (End e) b = refl

back_two : (g : Fact) (r : Record) → Beyond g (Rec r) → clashes TwoRecords (Rec r) g ≡ false
back_two (Rec s) r b = rw (not_place_back s r b) refl
back_two (End e) r b = refl

end_two : (e : EndMark) (f : Fact) → clashes TwoRecords (End e) f ≡ false
end_two e (Rec s) = refl
end_two e (End g) = refl

-- where the next record is at another place, all after it are further on
part : (r s : Record) → After (Rec r) (Rec s) → is_place r s ≡ false → StrictAt r s
part r s (inl lt, d) e = inl lt
part r s (inr le, d) e = inr (le.0, grind (arith, le, e))

further : (r s : Record) (f : Fact) → StrictAt r s → After (Rec s) f → Beyond (Rec r) f
further r s (Rec t) h (inl lt, d) = further_log h
  where
    further_log : StrictAt r s → StrictAt r t
    further_log (inl a) = inl (omega arith)
    further_log (inr a) = inl (omega arith)
further r s (Rec t) h (inr le, d) = further_at h
  where
    further_at : StrictAt r s → StrictAt r t
    further_at (inl a) = inl (omega arith)
    further_at (inr a) = inr (omega arith, omega arith)
further r s (End e) h a = tt

further_all : (r s : Record) (xs : List Fact) → StrictAt r s → AllByRecursion (After (Rec s)) xs → AllByRecursion (Beyond (Rec r)) xs
further_all r s xs h a = all_map (λ f b. further r s f h b) xs a

abbrev IsEnd : Fact → Type 0
IsEnd (Rec r) = ⊥
IsEnd (End e) = ⊤

ends : (e : EndMark) (f : Fact) → After (End e) f → IsEnd f
ends e (Rec r) a = absurd a
ends e (End g) a = tt

ends_never : (k : Kind) (all xs : List Fact) → ((e : EndMark) (f : Fact) → clashes k (End e) f ≡ false) → AllByRecursion IsEnd xs → first_place (is_against k all) xs ≡ None
ends_never k all [] h a = refl
ends_never k all (Rec r ∷ xs) h a = absurd a.0
ends_never k all (End e ∷ xs) h a = rw (no_end k all h e, ends_never k all xs h a.1) refl

twins_end : (last : Option (ℕ × ℕ)) (xs : List Fact) → AllByRecursion IsEnd xs → twins last xs ≡ None
twins_end last [] a = refl
twins_end last (Rec r ∷ xs) a = absurd a.0
twins_end last (End e ∷ xs) a = twins_end last xs a.1

falls_end : (last : Option (ℕ × ℕ)) (xs : List Fact) → AllByRecursion IsEnd xs → falls last xs ≡ None
falls_end last [] a = refl
falls_end last (Rec r ∷ xs) a = absurd a.0
falls_end last (End e ∷ xs) a = falls_end last xs a.1

-- Two records at one place.

self_two : (r : Record) → clashes TwoRecords (Rec r) (Rec r) ≡ false
self_two r = rw (same_self (Rec r)) (grind arith)

same_place : (r s : Record) → is_place r s ≡ true → (r.log ≡ s.log) × (r.at ≡ s.at)
same_place r s e = (grind (arith, e), grind (arith, e))

apart_from : (r : Record) (pre : List Fact) → AllByRecursion (λ g. Beyond g (Rec r)) pre → list_any (clashes TwoRecords (Rec r)) pre ≡ false
apart_from r pre a = any_never (clashes TwoRecords (Rec r)) pre (all_map (λ g b. back_two g r b) pre a)

alone : (k : Kind) (all pre : List Fact) (r : Record) (xs : List Fact) → Parts all pre (Rec r ∷ xs) →
    list_any (clashes k (Rec r)) pre ≡ false → clashes k (Rec r) (Rec r) ≡ false → is_against k all (Rec r) ≡ list_any (clashes k (Rec r)) xs
alone k all pre r xs p before itself = p.any (clashes k (Rec r)) ∙ (rw (before, itself) refl)

pair_up : (r s : Record) (ys : List Fact) (b : Bool) → is_place r s ≡ b → (rest now : Option (ℕ × ℕ)) (against : Bool) →
    (b ≡ true → against ≡ true) → (b ≡ false → against ≡ false) → (b ≡ false → rest ≡ now) →
    (if against then Some (r.log, r.at) else rest) ≡ (if b then Some (s.log, s.at) else now)
pair_up r s ys true e rest now against does_pair does_not same = rw (does_pair refl) (ap Some (λ i. ((same_place r s e).0 i, (same_place r s e).1 i)))
pair_up r s ys false e rest now against does_pair does_not same = rw (does_not refl) (same refl)

two_from : (all pre : List Fact) (r : Record) (xs : List Fact) → Parts all pre (Rec r ∷ xs) → Apart pre (Rec r ∷ xs) → Ordered (Rec r ∷ xs) →
    first_place (is_against TwoRecords all) (Rec r ∷ xs) ≡ twins (Some (r.log, r.at)) xs
two_from all pre r [] p a o =
    let at : is_against TwoRecords all (Rec r) ≡ false = alone TwoRecords all pre r [] p (apart_from r pre (apart_heads (Rec r) [] pre a)) (self_two r) in
    rw at refl
two_from all pre r (End e ∷ xs) p a o =
    let later : AllByRecursion (Beyond (Rec r)) xs = all_map (λ f b. end_beyond f b) xs o.1.0 in
    let at : is_against TwoRecords all (Rec r) ≡ false =
    alone TwoRecords all pre r (End e ∷ xs) p (apart_from r pre (apart_heads (Rec r) (End e ∷ xs) pre a)) (self_two r) ∙ beyond_apart TwoRecords r (End e ∷ xs) (first_two r) (tt, later) in
    let ended : AllByRecursion IsEnd xs = all_map (λ f b. ends e f b) xs o.1.0 in
    rw (at, no_end TwoRecords all end_two e, ends_never TwoRecords all xs end_two ended, twins_end (Some (r.log, r.at)) xs ended) refl
  where
    end_beyond : (f : Fact) → After (End e) f → Beyond (Rec r) f
    end_beyond (Rec t) b = absurd b
    end_beyond (End g) b = tt
two_from all pre r (Rec s ∷ xs) p a o =
    pair_up r s xs (is_place r s) refl (first_place (is_against TwoRecords all) (Rec s ∷ xs)) (twins (Some (s.log, s.at)) xs) (is_against TwoRecords all (Rec r))
    (λ e. at ∙ rw (e, o.0.0.1) refl)
    (λ e. at ∙ beyond_apart TwoRecords r (Rec s ∷ xs) (first_two r) (part r s o.0.0 e, further_all r s xs (part r s o.0.0 e) o.1.0))
    (λ e. two_from all (Rec r ∷ pre) s xs (moved all pre (Rec r) (Rec s ∷ xs) p) ((part r s o.0.0 e, further_all r s xs (part r s o.0.0 e) o.1.0), apart_tails (Rec r) (Rec s ∷ xs) pre a) o.1)
  where
    at : is_against TwoRecords all (Rec r) ≡ list_any (clashes TwoRecords (Rec r)) (Rec s ∷ xs)
    at = alone TwoRecords all pre r (Rec s ∷ xs) p (apart_from r pre (apart_heads (Rec r) (Rec s ∷ xs) pre a)) (self_two r)

two_at_start : (xs : List Fact) → Ordered xs → twins None xs ≡ first_place (is_against TwoRecords xs) xs
two_at_start [] o = refl
two_at_start (Rec r ∷ xs) o = sym (two_from (Rec r ∷ xs) [] r xs (whole (Rec r ∷ xs)) tt o)
two_at_start (End e ∷ xs) o =
    let ended : AllByRecursion IsEnd xs = all_map (λ f b. ends e f b) xs o.0 in
    rw (twins_end None xs ended, no_end TwoRecords (End e ∷ xs) end_two e, ends_never TwoRecords (End e ∷ xs) xs end_two ended) refl

pub twins_is : (xs : List Fact) → AreOrdered xs → twins None xs ≡ conflict TwoRecords xs
twins_is xs o = two_at_start xs (ordered xs o) ∙ first_of TwoRecords xs end_two o

beyond_end : (r : Record) (g : EndMark) (f : Fact) → After (End g) f → Beyond (Rec r) f
beyond_end r g (Rec t) b = absurd b
beyond_end r g (End h) b = tt

end_beyonds : (e : EndMark) (xs : List Fact) → AllByRecursion (Beyond (End e)) xs
end_beyonds e [] = tt
end_beyonds e (x ∷ xs) = (tt, end_beyonds e xs)

strict_ends : (xs : List Fact) → AllByRecursion IsEnd xs → Strict xs
strict_ends [] a = tt
strict_ends (Rec r ∷ xs) a = absurd a.0
strict_ends (End e ∷ xs) a = (end_beyonds e xs, strict_ends xs a.1)

-- Without two records at one place, later records stand further on.
strict_from : (r : Record) (xs : List Fact) → Ordered (Rec r ∷ xs) → twins (Some (r.log, r.at)) xs ≡ None → AllByRecursion (Beyond (Rec r)) xs × Strict xs
strict_from r [] o e = (tt, tt)
strict_from r (End g ∷ xs) o e =
    ((tt, all_map (λ f b. beyond_end r g f b) xs o.1.0), strict_ends (End g ∷ xs) (tt, all_map (λ f b. ends g f b) xs o.1.0))
strict_from r (Rec s ∷ xs) o e =
    let other : is_place r s ≡ false = not_found (is_place r s) e in
    let rest = strict_from s xs o.1 (found_none (is_place r s) other e) in
    ((part r s o.0.0 other, further_all r s xs (part r s o.0.0 other) o.1.0), rest)
  where
    not_found : (b : Bool) → (if b then Some (s.log, s.at) else twins (Some (s.log, s.at)) xs) ≡ None → b ≡ false
    not_found true h = cc
    not_found false h = refl

    found_none : (b : Bool) → b ≡ false → (if b then Some (s.log, s.at) else twins (Some (s.log, s.at)) xs) ≡ None → twins (Some (s.log, s.at)) xs ≡ None
    found_none true eb h = cc
    found_none false eb h = h

pub strict : (xs : List Fact) → Ordered xs → twins None xs ≡ None → Strict xs
strict [] o e = tt
strict (Rec r ∷ xs) o e = strict_from r xs o e
strict (End g ∷ xs) o e = strict_ends (End g ∷ xs) (tt, all_map (λ f b. ends g f b) xs o.0)

-- A stamp at two places.

on_stamp : (r : Record) (f : Fact) → (Beyond (Rec r) f ⊎ Beyond f (Rec r)) → clashes StampTwice (Rec r) f ≡ has_stamp r.stamp f
on_stamp r (Rec s) h = rw (apart_either h) (and_true (nat_eq s.stamp r.stamp))
  where
    apart_either : (Beyond (Rec r) (Rec s) ⊎ Beyond (Rec s) (Rec r)) → is_place r s ≡ false
    apart_either (inl b) = not_place r s b
    apart_either (inr b) = not_place_back s r b

    and_true : (b : Bool) → (b && true) ≡ b
    and_true true = refl
    and_true false = refl
on_stamp r (End e) h = refl

self_stamp : (r : Record) → clashes StampTwice (Rec r) (Rec r) ≡ false
self_stamp r = grind arith

two_counted : (m n : ℕ) (b : Bool) → b ≡ true → (nat_lt 0 m || nat_lt 0 n) ≡ nat_lt 1 (m + (if b then n + 1 else n))
two_counted m n true e = grind arith
two_counted m n false e = cc

stamp_at : (all pre : List Fact) (r : Record) (xs : List Fact) → Parts all pre (Rec r ∷ xs) → Apart pre (Rec r ∷ xs) → AllByRecursion (Beyond (Rec r)) xs →
    is_against StampTwice all (Rec r) ≡ is_twice all (Rec r)
stamp_at all pre r xs p a b =
    let before : list_any (clashes StampTwice (Rec r)) pre ≡ nat_lt 0 (length (filter (has_stamp r.stamp) pre)) =
    any_on (clashes StampTwice (Rec r)) (has_stamp r.stamp) pre (all_map (λ f h. on_stamp r f (inr h)) pre (apart_heads (Rec r) xs pre a)) ∙ any-count (has_stamp r.stamp) pre in
    let behind : list_any (clashes StampTwice (Rec r)) xs ≡ nat_lt 0 (length (filter (has_stamp r.stamp) xs)) =
    any_on (clashes StampTwice (Rec r)) (has_stamp r.stamp) xs (all_map (λ f h. on_stamp r f (inl h)) xs b) ∙ any-count (has_stamp r.stamp) xs in
    p.any (clashes StampTwice (Rec r)) ∙ (rw (before, self_stamp r, behind)
    (two_counted (length (filter (has_stamp r.stamp) pre)) (length (filter (has_stamp r.stamp) xs)) (nat_eq r.stamp r.stamp) (grind arith)
    ∙ sym (ap (λ n. nat_lt 1 n) (p.counts (has_stamp r.stamp) ∙ ap (λ n. length (filter (has_stamp r.stamp) pre) + n) (count-cons (has_stamp r.stamp) (Rec r) xs)))))

end_stamp : (e : EndMark) (f : Fact) → clashes StampTwice (End e) f ≡ false
end_stamp e (Rec s) = refl
end_stamp e (End g) = refl

stamps_from : (all pre xs : List Fact) → Parts all pre xs → Apart pre xs → Strict xs → first_place (is_twice all) xs ≡ first_place (is_against StampTwice all) xs
stamps_from all pre [] p a s = refl
stamps_from all pre (Rec r ∷ xs) p a s =
    rw (stamp_at all pre r xs p a s.0, stamps_from all (Rec r ∷ pre) xs (moved all pre (Rec r) xs p) (s.0, apart_tails (Rec r) xs pre a) s.1) refl
stamps_from all pre (End e ∷ xs) p a s =
    rw (no_end StampTwice all end_stamp e, stamps_from all (End e ∷ pre) xs (moved all pre (End e) xs p) (s.0, apart_tails (End e) xs pre a) s.1) refl

pub twice_is : (xs : List Fact) → AreOrdered xs → conflict TwoRecords xs ≡ None → first_place (is_twice xs) xs ≡ conflict StampTwice xs
twice_is xs o apart =
    stamps_from xs [] xs (whole xs) tt (strict xs (ordered xs o) (twins_is xs o ∙ apart)) ∙ first_of StampTwice xs end_stamp o

-- Two counts of one log.

abbrev Aside : Fact → Fact → Type 0
Aside (End e) (End g) = e.log < g.log
Aside (End e) (Rec r) = ⊤
Aside (Rec r) f = ⊤

abbrev AllAside : List Fact → List Fact → Type 0
AllAside pre xs = AllByRecursion (λ g. AllByRecursion (Aside g) xs) pre

aside_tails : (x : Fact) (xs pre : List Fact) → AllAside pre (x ∷ xs) → AllAside pre xs
aside_tails x xs [] a = tt
aside_tails x xs (g ∷ gs) a = (a.0.1, aside_tails x xs gs a.1)

aside_heads : (x : Fact) (xs pre : List Fact) → AllAside pre (x ∷ xs) → AllByRecursion (λ g. Aside g x) pre
aside_heads x xs [] a = tt
aside_heads x xs (g ∷ gs) a = (a.0.0, aside_heads x xs gs a.1)

record_asides : (r : Record) (xs : List Fact) → AllByRecursion (Aside (Rec r)) xs
record_asides r [] = tt
record_asides r (x ∷ xs) = (tt, record_asides r xs)

record_counts : (r : Record) (f : Fact) → clashes TwoCounts (Rec r) f ≡ false
record_counts r (Rec s) = refl
record_counts r (End g) = refl

self_counts : (e : EndMark) → clashes TwoCounts (End e) (End e) ≡ false
self_counts e = grind arith

back_counts : (e : EndMark) (f : Fact) → Aside f (End e) → clashes TwoCounts (End e) f ≡ false
back_counts e (Rec r) a = refl
back_counts e (End g) a = grind (arith, a)

next_counts : (e : EndMark) (f : Fact) → Aside (End e) f → clashes TwoCounts (End e) f ≡ false
next_counts e (Rec r) a = refl
next_counts e (End g) a = grind (arith, a)

aside_of : (e g : EndMark) → After (End e) (End g) → nat_eq e.log g.log ≡ false → e.log < g.log
aside_of e g (inl lt) h = lt
aside_of e g (inr le) h = absurd (grind (arith, le, h))

further_log : (e g : EndMark) (f : Fact) → e.log < g.log → After (End g) f → Aside (End e) f
further_log e g (Rec r) h a = tt
further_log e g (End k) h (inl lt) = omega arith
further_log e g (End k) h (inr le) = omega arith

pair_counts : (e g : EndMark) → After (End e) (End g) → nat_eq e.log g.log ≡ true → clashes TwoCounts (End e) (End g) ≡ true
pair_counts e g (inl lt) h = absurd (grind (arith, lt, h))
pair_counts e g (inr le) h = grind (arith, le)

marks_pair : (e g : EndMark) (b : Bool) → nat_eq e.log g.log ≡ b → (rest now : Option (ℕ × ℕ)) (against : Bool) →
    (nat_eq e.log g.log ≡ true → against ≡ true) → (nat_eq e.log g.log ≡ false → against ≡ false) → (nat_eq e.log g.log ≡ false → rest ≡ now) →
    (if against then Some (e.log, e.count) else rest) ≡ (if b then Some (e.log, e.count) else now)
marks_pair e g true h rest now against does_pair does_not same = rw (does_pair h) refl
marks_pair e g false h rest now against does_pair does_not same = rw (does_not h) (same h)

counts_at : (all pre : List Fact) (e : EndMark) (xs : List Fact) → Parts all pre (End e ∷ xs) → AllAside pre (End e ∷ xs) →
    is_against TwoCounts all (End e) ≡ list_any (clashes TwoCounts (End e)) xs
counts_at all pre e xs p a =
    let before : list_any (clashes TwoCounts (End e)) pre ≡ false =
    any_never (clashes TwoCounts (End e)) pre (all_map (λ g h. back_counts e g h) pre (aside_heads (End e) xs pre a)) in
    p.any (clashes TwoCounts (End e)) ∙ rw (before, self_counts e) refl

counts_from : (all pre : List Fact) (e : EndMark) (xs : List Fact) → Parts all pre (End e ∷ xs) → AllAside pre (End e ∷ xs) → Ordered (End e ∷ xs) →
    first_place (is_against TwoCounts all) (End e ∷ xs) ≡ marks_twice (Some (e.log, e.count)) xs
counts_from all pre e [] p a o = rw (counts_at all pre e [] p a) refl
counts_from all pre e (Rec r ∷ xs) p a o = absurd o.0.0
counts_from all pre e (End g ∷ xs) p a o =
    marks_pair e g (nat_eq e.log g.log) refl (first_place (is_against TwoCounts all) (End g ∷ xs)) (marks_twice (Some (g.log, g.count)) xs) (is_against TwoCounts all (End e))
    (λ h. counts_at all pre e (End g ∷ xs) p a ∙ rw (pair_counts e g o.0.0 h) refl)
    (λ h. counts_at all pre e (End g ∷ xs) p a ∙ any_never (clashes TwoCounts (End e)) (End g ∷ xs) (all_map (λ f b. next_counts e f b) (End g ∷ xs) (aside_all h)))
    (λ h. counts_from all (End e ∷ pre) g xs (moved all pre (End e) (End g ∷ xs) p) (aside_all h, aside_tails (End e) (End g ∷ xs) pre a) o.1)
  where
    aside_all : nat_eq e.log g.log ≡ false → AllByRecursion (Aside (End e)) (End g ∷ xs)
    aside_all h = (aside_of e g o.0.0 h, all_map (λ f b. further_log e g f (aside_of e g o.0.0 h) b) xs o.1.0)

counts_start : (all pre xs : List Fact) → Parts all pre xs → AllAside pre xs → Ordered xs → marks_twice None xs ≡ first_place (is_against TwoCounts all) xs
counts_start all pre [] p a o = refl
counts_start all pre (Rec r ∷ xs) p a o =
    rw (any_none (clashes TwoCounts (Rec r)) all (record_counts r)) (counts_start all (Rec r ∷ pre) xs (moved all pre (Rec r) xs p) (record_asides r xs, aside_tails (Rec r) xs pre a) o.1)
counts_start all pre (End e ∷ xs) p a o = sym (counts_from all pre e xs p a o)

pub marks_twice_is : (xs : List Fact) → AreOrdered xs → marks_twice None xs ≡ conflict TwoCounts xs
marks_twice_is xs o =
    counts_start xs [] xs (whole xs) tt (ordered xs o)
    ∙ sym (first_is_least (is_against TwoCounts xs) xs (inr (λ r. any_none (clashes TwoCounts (Rec r)) xs (record_counts r))) (ordered xs o))

-- A stamp that does not rise.

abbrev Under : Record → Fact → Type 0
Under q (Rec s) = (s.log < q.log) ⊎ ((s.log ≡ q.log) × (s.stamp ≤ q.stamp))
Under q (End e) = ⊤

abbrev fall : Record → Record → Bool
fall q r = is_fall (Some (q.log, q.stamp)) r.log r.stamp

self_order : (r : Record) → clashes StampOrder (Rec r) (Rec r) ≡ false
self_order r = grind arith

later_order : (r : Record) (f : Fact) → Beyond (Rec r) f → clashes StampOrder (Rec r) f ≡ false
later_order r (Rec s) (inl b) = grind (arith, b)
later_order r (Rec s) (inr b) = grind (arith, b)
later_order r (End e) b = refl

before_order : (q r : Record) → StrictAt q r → clashes StampOrder (Rec r) (Rec q) ≡ fall q r
before_order q r (inl b) = grind (arith, b)
before_order q r (inr b) = grind (arith, b)

under_order : (q r : Record) (f : Fact) → StrictAt q r → fall q r ≡ false → Under q f → clashes StampOrder (Rec r) f ≡ false
under_order q r (Rec s) b e (inl u) = grind (arith, b, u)
under_order q r (Rec s) (inl b) e (inr u) = grind (arith, b, u)
under_order q r (Rec s) (inr b) e (inr u) = grind (arith, b, u, e)
under_order q r (End g) b e u = refl

rises : (q r : Record) → StrictAt q r → fall q r ≡ false → (q.log < r.log) ⊎ ((q.log ≡ r.log) × (q.stamp < r.stamp))
rises q r (inl b) e = inl b
rises q r (inr b) e = inr (b.0, grind (arith, b, e))

under_next : (q r : Record) (f : Fact) → (q.log < r.log) ⊎ ((q.log ≡ r.log) × (q.stamp < r.stamp)) → Under q f → Under r f
under_next q r (Rec s) (inl b) (inl u) = inl (omega arith)
under_next q r (Rec s) (inl b) (inr u) = inl (omega arith)
under_next q r (Rec s) (inr b) (inl u) = inl (omega arith)
under_next q r (Rec s) (inr b) (inr u) = inr (omega arith, omega arith)
under_next q r (End g) b u = tt

under_last : (q r : Record) → (q.log < r.log) ⊎ ((q.log ≡ r.log) × (q.stamp < r.stamp)) → Under r (Rec q)
under_last q r (inl b) = inl b
under_last q r (inr b) = inr (b.0, omega arith)

or_fall : (b a : Bool) → (b ≡ false → a ≡ false) → ((b || a) || false) ≡ b
or_fall true a h = refl
or_fall false a h = rw (h refl) refl

fall_at : (all pre : List Fact) (q r : Record) (xs : List Fact) → Parts all (Rec q ∷ pre) (Rec r ∷ xs) → StrictAt q r → AllByRecursion (Under q) pre → AllByRecursion (Beyond (Rec r)) xs →
    is_against StampOrder all (Rec r) ≡ fall q r
fall_at all pre q r xs p b u later =
    p.any (clashes StampOrder (Rec r)) ∙ rw (before_order q r b, self_order r, any_never (clashes StampOrder (Rec r)) xs (all_map (λ f h. later_order r f h) xs later))
    (or_fall (fall q r) (list_any (clashes StampOrder (Rec r)) pre) (λ e. any_never (clashes StampOrder (Rec r)) pre (all_map (λ f h. under_order q r f b e h) pre u)))

found_or : (S F G : Option (ℕ × ℕ)) (b : Bool) → (b ≡ false → F ≡ G) → (if b then S else F) ≡ (if b then S else G)
found_or S F G true h = refl
found_or S F G false h = h refl

end_order : (e : EndMark) (f : Fact) → clashes StampOrder (End e) f ≡ false
end_order e (Rec s) = refl
end_order e (End g) = refl

falls_from : (all pre : List Fact) (q : Record) (xs : List Fact) → Parts all (Rec q ∷ pre) xs → Apart (Rec q ∷ pre) xs → AllByRecursion (Under q) pre → Ordered xs → Strict xs →
    first_place (is_against StampOrder all) xs ≡ falls (Some (q.log, q.stamp)) xs
falls_from all pre q [] p a u o s = refl
falls_from all pre q (End e ∷ xs) p a u o s =
    let ended : AllByRecursion IsEnd xs = all_map (λ f b. ends e f b) xs o.0 in
    rw (no_end StampOrder all end_order e, ends_never StampOrder all xs end_order ended, falls_end (Some (q.log, q.stamp)) xs ended) refl
falls_from all pre q (Rec r ∷ xs) p a u o s =
    rw (fall_at all pre q r xs p a.0.0 u s.0)
    (found_or (Some (r.log, r.at)) (first_place (is_against StampOrder all) xs) (falls (Some (r.log, r.stamp)) xs) (fall q r)
    (λ e. falls_from all (Rec q ∷ pre) r xs (moved all (Rec q ∷ pre) (Rec r) xs p) (s.0, apart_tails (Rec r) xs (Rec q ∷ pre) a)
    (under_last q r (rises q r a.0.0 e), all_map (λ f h. under_next q r f (rises q r a.0.0 e) h) pre u) o.1 s.1))

falls_start : (xs : List Fact) → Ordered xs → Strict xs → falls None xs ≡ first_place (is_against StampOrder xs) xs
falls_start [] o s = refl
falls_start (Rec r ∷ xs) o s =
    let at : is_against StampOrder (Rec r ∷ xs) (Rec r) ≡ false =
    rw (self_order r) (any_never (clashes StampOrder (Rec r)) xs (all_map (λ f h. later_order r f h) xs s.0)) in
    rw at (sym (falls_from (Rec r ∷ xs) [] r xs (moved (Rec r ∷ xs) [] (Rec r) xs (whole (Rec r ∷ xs))) (s.0, tt) tt o.1 s.1))
falls_start (End e ∷ xs) o s =
    let ended : AllByRecursion IsEnd xs = all_map (λ f b. ends e f b) xs o.0 in
    rw (falls_end None xs ended, no_end StampOrder (End e ∷ xs) end_order e, ends_never StampOrder (End e ∷ xs) xs end_order ended) refl

pub falls_is : (xs : List Fact) → AreOrdered xs → conflict TwoRecords xs ≡ None → falls None xs ≡ conflict StampOrder xs
falls_is xs o apart =
    falls_start xs (ordered xs o) (strict xs (ordered xs o) (twins_is xs o ∙ apart)) ∙ first_of StampOrder xs end_order o
