-- Each operation has rows of its own in the tables.
use Rattle.std.proofs.Common.{◌≡◌, pos, [], ◌∷◌, refl, arith}
use Rattle.std.proofs.lemmas.Int.{ints}
use Rattle.aud_event.specs.declared.object.Op.TheVariants.{Read, Write, Inc, Dec, Get, Add, Remove, Contains, Enq, Deq, Plus, Put, Look, Del}
use Rattle.aud_event.specs.declared.object.OpName.TheVariants as word
use Rattle.aud_kinds.specs.Objects.{register, counter, set_of, queue, map_of}
use Rattle.aud_object.specs.Laws.{EachOtherChanges, EachObservingTells, OtherKindsStay}

one-not-zero : pos 1 ≡ pos 0 → ⊥
one-not-zero e = omega (arith, ints, e)

zero-not-one : pos 0 ≡ pos 1 → ⊥
zero-not-one e = omega (arith, ints, e)

pub each_other_changes : EachOtherChanges
each_other_changes word.Read h = cc
each_other_changes word.Write h = (Write (pos 1), (register (pos 0), (refl, refl, λ e. one-not-zero (cc))))
each_other_changes word.Inc h = (Inc, (counter (pos 0), (refl, refl, λ e. one-not-zero (cc))))
each_other_changes word.Dec h = (Dec, (counter (pos 1), (refl, refl, λ e. zero-not-one (cc))))
each_other_changes word.Get h = cc
each_other_changes word.Add h = (Add (pos 0), (set_of [], (refl, refl, λ e. cc)))
each_other_changes word.Remove h = (Remove (pos 0), (set_of (pos 0 ∷ []), (refl, refl, λ e. cc)))
each_other_changes word.Contains h = cc
each_other_changes word.Enq h = (Enq (pos 0), (queue [], (refl, refl, λ e. cc)))
each_other_changes word.Deq h = (Deq, (queue (pos 0 ∷ []), (refl, refl, λ e. cc)))
each_other_changes word.Plus h = (Plus (pos 1), (counter (pos 0), (refl, refl, λ e. one-not-zero (cc))))
each_other_changes word.Put h = (Put (pos 0) (pos 0), (map_of [], (refl, refl, λ e. cc)))
each_other_changes word.Look h = cc
each_other_changes word.Del h = (Del (pos 0), (map_of ((pos 0, pos 0) ∷ []), (refl, refl, λ e. cc)))

pub each_observing_tells : EachObservingTells
each_observing_tells word.Read h = (Read, (register (pos 1), (register (pos 0), (refl, refl, refl, λ e. one-not-zero (cc)))))
each_observing_tells word.Get h = (Get, (counter (pos 1), (counter (pos 0), (refl, refl, refl, λ e. one-not-zero (cc)))))
each_observing_tells word.Contains h = (Contains (pos 0), (set_of (pos 0 ∷ []), (set_of [], (refl, refl, refl, λ e. cc))))
each_observing_tells word.Look h = (Look (pos 0), (map_of ((pos 0, pos 0) ∷ []), (map_of [], (refl, refl, refl, λ e. cc))))
each_observing_tells _ h = cc

pub other_kinds_stay : OtherKindsStay
other_kinds_stay (register v) Read h = cc
other_kinds_stay (register v) (Write w) h = cc
other_kinds_stay (counter n) Inc h = cc
other_kinds_stay (counter n) Dec h = cc
other_kinds_stay (counter n) Get h = cc
other_kinds_stay (counter n) (Plus k) h = cc
other_kinds_stay (set_of s) (Add v) h = cc
other_kinds_stay (set_of s) (Remove v) h = cc
other_kinds_stay (set_of s) (Contains v) h = cc
other_kinds_stay (queue q) (Enq v) h = cc
other_kinds_stay (queue q) Deq h = cc
other_kinds_stay (map_of m) (Put k v) h = cc
other_kinds_stay (map_of m) (Look k) h = cc
other_kinds_stay (map_of m) (Del k) h = cc
other_kinds_stay _ _ h = (refl, refl)
