-- The offers of one seat.
use Rattle.std.proofs.Common.{set, length-set, slice_index, ◌≡◌, ◌≢◌, ℕ, ◌+◌, ◌<◌, ◌≤◌, ◌==◌, Bool, true, false, if◌then◌else◌, List, [], ◌∷◌, ◌++◌, length, take, refl, ap, sym, ◌∙◌, arith, length-append, append_assoc}
use Rattle.std.proofs.lemmas.List.{take-append-le, append-nil, take_all, length-take}
use Rattle.std.proofs.lemmas.Bool.Decides.{nat_tests}
use Rattle.std.specs.declared.alloc.Global.{Global}
use mathlib.Core.List.{IsPrefix}
use mathlib.Core.Logic.{dite}
use native.Mathlib.Decide.{ℕ_discrete}
use Rattle.std.proofs.lemmas.Grind.{get_or-set_at}
use Rattle.std.proofs.lemmas.List.{get_or-set_other}
use Rattle.aud_know.specs.declared.item.Item.{Item}
use Rattle.aud_know.specs.Items.{item_atoms}
use Rattle.aud_know.specs.Known.{KnowledgeOf, norm_of}
use Rattle.aud_node.specs.Logs.{Entry, own, atoms_in, state_of, IsWider}
use Rattle.aud_node.specs.Meanings.{PassOf, mine, SeesOwnOffers}
use Rattle.aud_node.proofs.Fronts.{prefix_whole}

own_one : (b : Bool) (x : Item Global) (xs ys : List (Item Global)) → (if b then x ∷ (xs ++ ys) else xs ++ ys) ≡ (if b then x ∷ xs else xs) ++ ys
own_one true x xs ys = refl
own_one false x xs ys = refl

pub own-append : (s : ℕ) (xs ys : List Entry) → own s (xs ++ ys) ≡ own s xs ++ own s ys
own-append s [] ys = refl
own-append s (x ∷ xs) ys = rw (own-append s xs ys) (own_one (x.0 == s) x.1 (own s xs) (own s ys))

pub own_prefix : (s : ℕ) (v w : List Entry) → IsPrefix v w → IsPrefix (own s v) (own s w)
own_prefix s v w p = (own s p.0, sym (own-append s v p.0) ∙ ap (own s) p.1)

pub own_longer : (s n : ℕ) (v w : List Entry) → IsPrefix v w → n ≤ length (own s v) → n ≤ length (own s w)
own_longer s n v w p le = omega (arith, ap (λ xs. length (own s xs)) p.1, ap length (own-append s v p.0), length-append (own s v) (own s p.0), le)

pub mine_kept : (s n : ℕ) (v w : List Entry) → IsPrefix v w → n ≤ length (own s v) → take n (own s w) ≡ take n (own s v)
mine_kept s n v w p le = ap (λ xs. take n (own s xs)) (sym p.1) ∙ ap (take n) (own-append s v p.0) ∙ take-append-le n (own s v) (own s p.0) le

-- where a seat has as many entries in the log as its pass has offers, these are its offers
pub mine_whole : (s n : ℕ) (v log : List Entry) → IsPrefix v log → n ≤ length (own s v) → n ≡ length (own s log) → own s log ≡ take n (own s v)
mine_whole s n v log p le is =
    let same : own s v ≡ own s log = prefix_whole (own s v) (own s log) (own_prefix s v log p) (omega (arith, le, is)) in
    sym same ∙ sym (take_all n (own s v) (omega (arith, le, is, ap length same)))

own_here : (b : Bool) (x : Item Global) → b ≡ true → (if b then x ∷ [] else []) ≡ x ∷ []
own_here b x e = rw e refl

own_away : (b : Bool) (x : Item Global) → b ≡ false → (if b then x ∷ [] else []) ≡ []
own_away b x e = rw e refl

pub own_mine : (s : ℕ) (x : Entry) → x.0 ≡ s → own s (x ∷ []) ≡ x.1 ∷ []
own_mine s x e = own_here (x.0 == s) x.1 (grind (arith, nat_tests))

pub own_others : (s : ℕ) (x : Entry) → x.0 ≢ s → own s (x ∷ []) ≡ []
own_others s x e = own_away (x.0 == s) x.1 (grind (arith, nat_tests))

own_step : (b : Bool) (x : Item Global) (xs : List (Item Global)) → length (if b then x ∷ xs else xs) ≤ length xs + 1
own_step true x xs = omega arith
own_step false x xs = omega arith

pub own_le : (s : ℕ) (xs : List Entry) → length (own s xs) ≤ length xs
own_le s [] = omega arith
own_le s (x ∷ xs) = omega (arith, own_le s xs, own_step (x.0 == s) x.1 (own s xs))

own_one_more : (s : ℕ) (log : List Entry) (x : Entry) → x.0 ≡ s → length (own s (log ++ x ∷ [])) ≡ length (own s log) + 1
own_one_more s log x e = omega (arith, ap length (own-append s log (x ∷ [])), length-append (own s log) (own s (x ∷ [])), ap length (own_mine s x e))

own_no_more : (s : ℕ) (log : List Entry) (x : Entry) → x.0 ≢ s → length (own s (log ++ x ∷ [])) ≡ length (own s log)
own_no_more s log x e = omega (arith, ap length (own-append s log (x ∷ [])), length-append (own s log) (own s (x ∷ [])), ap length (own_others s x e))

-- the counts of all seats, one entry later
pub count_step : (counts : List ℕ) (log : List Entry) (x : Entry) (n : ℕ) → x.0 < length counts
    → ((k : ℕ) → k < length counts → slice_index counts k ≡ length (own k log))
    → n ≡ slice_index counts x.0
    → (k : ℕ) → k < length (set counts x.0 (n + 1)) → slice_index (set counts x.0 (n + 1)) k ≡ length (own k (log ++ x ∷ []))
count_step counts log x n in_range counted is k below =
    let below' : k < length counts = omega (arith, length-set counts x.0 (n + 1), below) in
    dite
    (ℕ_discrete k x.0)
    (λ (e : k ≡ x.0). get_or-set_at counts x.0 k (n + 1) 0 e in_range ∙ (omega (arith, is, counted x.0 in_range, ap (λ j. length (own j log)) e, own_one_more k log x (sym e))))
    (λ (ne : k ≢ x.0). get_or-set_other counts x.0 k (n + 1) 0 ne ∙ (counted k below' ∙ sym (own_no_more k log x (λ e. ne (sym e)))))

-- a seat's entries after one more of its own
pub own_grows : (s : ℕ) (item : Item Global) (log w : List Entry) → w ≡ log ++ (s, item) ∷ [] → length (own s w) ≡ length (own s log) + 1
own_grows s item log w is = ap (λ ps. length (own s ps)) is ∙ own_one_more s log (s, item) refl

pub own_offered : (s n : ℕ) (item : Item Global) (v log w : List Entry) → IsPrefix v log → n ≤ length (own s v) → n ≡ length (own s log) → w ≡ log ++ (s, item) ∷ []
    → own s w ≡ take n (own s v) ++ item ∷ []
own_offered s n item v log w p le count is =
    ap (own s) is ∙ (own-append s log ((s, item) ∷ []) ∙ (ap (λ xs. xs ++ own s ((s, item) ∷ [])) (mine_whole s n v log p le count) ∙ ap (λ xs. take n (own s v) ++ xs) (own_mine s (s, item) refl)))

-- an offer after one log is an offer after an equal one
pub same_offer : (new held log : List Entry) (s t : ℕ) (v item : Item Global) → new ≡ held ++ (s, v) ∷ [] → held ≡ log → s ≡ t → v ≡ item → new ≡ log ++ (t, item) ∷ []
same_offer new held log s t v item is logs seats items =
    is
    ∙ ap (λ (l : List Entry). l ++ (s, v) ∷ []) logs
    ∙ ap (λ (x : ℕ). log ++ (x, v) ∷ []) seats
    ∙ ap (λ (x : Item Global). log ++ (t, x) ∷ []) items

-- after an offer the pass's offers are the old ones and the new one
pub mine_more : (old new : PassOf) (item : Item Global) → new.seat ≡ old.seat → new.offers ≡ old.offers + 1 → own old.seat new.view ≡ mine old ++ item ∷ [] → mine new ≡ mine old ++ item ∷ []
mine_more old new item seat offers own_is =
    let entries : own new.seat new.view ≡ mine old ++ item ∷ [] = ap (λ s. own s new.view) seat ∙ own_is in
    let few : length (mine old) ≤ old.offers = omega (arith, length-take old.offers (own old.seat old.view)) in
    let short : length (mine old ++ item ∷ []) ≤ new.offers = omega (arith, few, offers, length-append (mine old) (item ∷ [])) in
    ap (take new.offers) entries ∙ take_all new.offers (mine old ++ item ∷ []) short

-- a view that is the log has the pass's offers alone of its seat
pub exact_whole : (old new : PassOf) (log : List Entry) → new.view ≡ log → new.seat ≡ old.seat → mine new ≡ mine old → own old.seat log ≡ mine old → SeesOwnOffers new
exact_whole old new log view seat same whole = ap (λ s. own s new.view) seat ∙ ap (own old.seat) view ∙ whole ∙ sym same

-- # Atoms

pub atoms-append : (xs ys : List Entry) → atoms_in (xs ++ ys) ≡ atoms_in xs ++ atoms_in ys
atoms-append [] ys = refl
atoms-append (x ∷ xs) ys = ap (λ l. item_atoms x.1 ++ l) (atoms-append xs ys) ∙ sym (append_assoc (item_atoms x.1) (atoms_in xs) (atoms_in ys))

-- the atoms of one entry more
pub atoms_snoc : (log : List Entry) (x : Entry) → atoms_in (log ++ x ∷ []) ≡ atoms_in log ++ item_atoms x.1
atoms_snoc log x = atoms-append log (x ∷ []) ∙ ap (λ l. atoms_in log ++ l) (append-nil (item_atoms x.1))

-- what is known once an item is taken is the state of the list that has its offer
pub state_next : (k new : KnowledgeOf) (log w : List Entry) (x : Entry) → k ≡ state_of k.plan log → IsWider k x.1 new → w ≡ log ++ x ∷ []
    → new ≡ state_of new.plan w
state_next k new log w x is wider more =
    let held : new.held ≡ norm_of (atoms_in w) = wider.1 (atoms_in log) (ap (λ (v : KnowledgeOf). v.held) is) ∙ ap norm_of (sym (ap atoms_in more ∙ atoms_snoc log x)) in
    λ i. record { plan = new.plan; held = held i }
