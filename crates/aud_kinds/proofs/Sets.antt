-- The members of a set as the keys of entries.
use Rattle.std.proofs.Common.{◌≡◌, ℕ, ℤ, List, [], ◌∷◌, Some, refl, arith}
use Rattle.std.specs.Prelude.{is_some}
use Rattle.std.specs.Int.{w64, cast_unsigned}
use Rattle.std.specs.Map.{keys_of}
use Rattle.std.proofs.lemmas.Grind.{common_steps}
use Rattle.aud_kinds.specs.Objects.{has_member, with_member, without_member}
use Rattle.base_undo.specs.Entries.{value_at, with_entry, without_entry, Ascend}
use Rattle.base_undo.specs.Digests.{stirred, digest_values, digest_entries}
use Rattle.base_undo.proofs.Ints.{lt-not_lt, lt-itself, eq-is}
use Rattle.base_undo.proofs.Keeping.{found-above}

pub has-key : {X : Type 0} (es : List (ℤ × X)) (k : ℤ) → has_member (keys_of es) k ≡ is_some (value_at es k)
has-key [] k = refl
has-key (e ∷ es) k = grind (arith, common_steps, has-key es k)

pub with-key : {X : Type 0} (es : List (ℤ × X)) (k : ℤ) (v : X) → keys_of (with_entry es k v) ≡ with_member (keys_of es) k
with-key [] k v = refl
with-key (e ∷ es) k v = grind (arith, common_steps, with-key es k v)

pub without-key : {X : Type 0} (es : List (ℤ × X)) (k : ℤ) → keys_of (without_entry es k) ≡ without_member (keys_of es) k
without-key [] k = refl
without-key (e ∷ es) k = grind (arith, common_steps, without-key es k)

-- to add what is a member changes nothing
pub with-member-same : {X : Type 0} (es : List (ℤ × X)) (k : ℤ) (v : X) → Ascend es → value_at es k ≡ Some v → with_member (keys_of es) k ≡ keys_of es
with-member-same [] k v h n = cc
with-member-same (e ∷ es) k v h n = grind (arith, common_steps, with-member-same es k v h.1, found-above e.0 k v es h.0, lt-not_lt e.0 k, eq-is k e.0, lt-itself k)

-- entries with nothing under their keys are their keys
pub same-keys : (es fs : List (ℤ × Unit {0})) → keys_of es ≡ keys_of fs → es ≡ fs
same-keys [] [] e = refl
same-keys [] (f ∷ fs) e = cc
same-keys (d ∷ es) [] e = cc
same-keys (d ∷ es) (f ∷ fs) e =
    let first : d.0 ≡ f.0 = cc in
    let rest : es ≡ fs = same-keys es fs (cc) in
    λ j. (first j, tt) ∷ rest j

-- a digest of keys with nothing under them
pub digest-keys : (start : ℕ) (es : List (ℤ × Unit {0})) → digest_entries (λ digest _. digest) start es ≡ digest_values start (keys_of es)
digest-keys start [] = refl
digest-keys start (e ∷ es) = digest-keys (stirred start (cast_unsigned w64 e.0)) es

pub ruleset members = (has-key, with-key, without-key, with-member-same, digest-keys)
