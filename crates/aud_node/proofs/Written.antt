-- A log that shares its items, one offer later.
use Rattle.std.proofs.Common.{◌≡◌, ℕ, ◌<◌, List, [], ◌∷◌, ◌++◌, length, All, ap, sym, subst, ◌∙◌}
use Rattle.std.proofs.lemmas.List.{map-append, length-map}
use Rattle.std.proofs.lemmas.List.Elements.{All-push}
use Rattle.std.specs.Arc.{arc_value}
use Rattle.std.specs.declared.sync.Arc.{Arc}
use Rattle.std.specs.declared.alloc.Global.{Global}
use Rattle.aud_know.specs.declared.item.Item.{Item}
use Rattle.aud_node.specs.Logs.{Entry, written_of}

pub written_next : (old new : List (ℕ × Arc (Item Global) Global)) (seat : ℕ) (item : Arc (Item Global) Global) → new ≡ old ++ (seat, item) ∷ [] → written_of new ≡ written_of old ++ (seat, arc_value item) ∷ []
written_next old new seat item is = ap written_of is ∙ map-append (λ p. (p.0, arc_value p.1)) old ((seat, item) ∷ [])

pub written_length : (items : List (ℕ × Arc (Item Global) Global)) → length (written_of items) ≡ length items
written_length items = length-map items (λ p. (p.0, arc_value p.1))

pub seated_next : (n m : ℕ) (log w : List Entry) (x : Entry) → All (λ e. e.0 < n) log → x.0 < n → m ≡ n → w ≡ log ++ x ∷ [] → All (λ e. e.0 < m) w
seated_next n m log w x all below same is =
    subst (λ (k : ℕ). All (λ e. e.0 < k) w) (sym same) (subst (λ (l : List Entry). All (λ e. e.0 < n) l) (sym is) (All-push (λ e. e.0 < n) log x all below))
