-- The tests of keys: over references in the code, over their texts in the grammar.
use Rattle.std.proofs.Common.{◌≡◌, ℕ, List, [], ◌∷◌, Bool, Bor, map, bytes_eq, string_bytes, refl}
use Rattle.std.specs.List.{list_all, list_any}
use Rattle.std.specs.Map.{keys_of}
use Rattle.serde_json.specs.View.{members_view}
use Rattle.serde_json.proofs.Views.{Entry}
use Rattle.aud_json.specs.Keys.{has_only}

pub all_of_map : (p : List ℕ → Bool) (ks : List (Bor (List ℕ))) → list_all (λ k. p k.now) ks ≡ list_all p (map (λ k. k.now) ks)
all_of_map p [] = refl
all_of_map p (k ∷ ks) = rw (all_of_map p ks) refl

pub any_of_map : (p : List ℕ → Bool) (ks : List (Bor (List ℕ))) → list_any (λ k. p k.now) ks ≡ list_any p (map (λ k. k.now) ks)
any_of_map p [] = refl
any_of_map p (k ∷ ks) = rw (any_of_map p ks) refl

pub only_of_entries : (ks : List (Bor (List ℕ))) (es : List Entry)
    → list_all (λ m. list_any (λ k. bytes_eq k.now (string_bytes m)) ks) (keys_of es) ≡ has_only (map (λ k. k.now) ks) (members_view es)
only_of_entries ks [] = refl
only_of_entries ks (e ∷ es) = rw (any_of_map (λ x. bytes_eq x (string_bytes e.0)) ks, only_of_entries ks es) refl
