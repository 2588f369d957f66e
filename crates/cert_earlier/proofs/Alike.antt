-- Lists that lead alike.
use Rattle.std.specs.Prelude.{◌≡◌, ◌↔◌, ℕ, Bool, true, false, IsTrue, nat_eq, List, [], ◌∷◌, map}
use Rattle.std.specs.List.{list_any}
use Rattle.std.proofs.Common.{sym, ◌∙◌, ap, subst, inl, inr}
use Rattle.aud_event.specs.Meanings.{Declared}
use Rattle.base_values.proofs.Bools.{split, nat_eq-is}
use Rattle.aud_kinds.specs.Objects.{ObjState, opening_of}
use Rattle.aud_object.specs.Executions.{states_after}
use Rattle.aud_history.specs.Histories.{History, is_in}
use Rattle.aud_history.specs.Table.{transactions}
use Rattle.aud_history.proofs.Tables.{any-transactions}
use Rattle.aud_witness.specs.declared.decision.Decision.{Decision}
use Rattle.aud_witness.specs.Orders.{is_named, kept, IsGood}
use Rattle.aud_order.specs.Shapes.{ShapeOf, objects_of, history_of}
use Rattle.aud_order.specs.Cursors.{CursorOf}
use Rattle.cert_earlier.specs.Resting.{LeadAlike}
use Rattle.cert_earlier.specs.Landings.{IsLandingOf}
use Rattle.cert_earlier.specs.declared.landing.Landing.{Landing}
use Rattle.aud_order.proofs.Moves.{map-named}
use Rattle.aud_order.proofs.Lengths.{named-good}

-- what two tests say of the numbers of a list
mapped-same : (f g : ℕ → Bool) (ts : List ℕ) (t : ℕ) → map f ts ≡ map g ts → list_any (nat_eq t) ts ≡ true → f t ≡ g t
mapped-same f g [] t same there = absurd (cc)
mapped-same f g (u ∷ ts) t same there =
    elim (split (nat_eq t u)) [
      | inl is ↦ let e : t ≡ u = nat_eq-is t u is in let head : f u ≡ g u = cc in ap f e ∙ head ∙ ap g (sym e)
      | inr off ↦ let tail : map f ts ≡ map g ts = cc in mapped-same f g ts t tail (cc)
    ]

named-same : (objects : List Declared) (h : History) (p q : List Decision) → IsGood objects h p → IsGood objects h q →
    map (is_named p) (transactions h) ≡ map (is_named q) (transactions h) → (t : ℕ) → is_named p t ≡ is_named q t
named-same objects h p q good other same t =
    elim (split (is_in h t)) [
      | inl there ↦ mapped-same (is_named p) (is_named q) (transactions h) t same (any-transactions h t ∙ there)
      | inr absent ↦ off p good absent ∙ sym (off q other absent)
    ]
  where
    off : (l : List Decision) → IsGood objects h l → is_in h t ≡ false → is_named l t ≡ false
    off l fine absent =
        elim (split (is_named l t)) [
          | inl named ↦ let clash : is_in h t ≡ true = named-good objects h l t fine named in absurd (cc)
          | inr fails ↦ fails
        ]

-- two lists that lead where the landing says lead alike
pub land-alike : (shape : ShapeOf) (p q : List Decision) (l : Landing) → IsGood (objects_of shape) (history_of shape) p → IsGood (objects_of shape) (history_of shape) q →
    IsLandingOf shape p l → IsLandingOf shape q l → LeadAlike (objects_of shape) (history_of shape) p q
land-alike shape p q l good other here there = record {
  placed = named-same (objects_of shape) (history_of shape) p q good other (here.placed ∙ sym there.placed);
  states = sym here.states ∙ there.states;
}

-- # With two cursors

abbrev pub placed_at : CursorOf → List Bool
placed_at c = map (is_named c.path) (transactions (history_of c.shape))

abbrev pub states_at : CursorOf → List ObjState
states_at c = states_after (map opening_of (objects_of c.shape)) (kept (history_of c.shape) c.path)

abbrev pub AreAlike : CursorOf → CursorOf → Type 0
AreAlike c e = LeadAlike (objects_of c.shape) (history_of c.shape) c.path e.path

pub not-alike : (c e : CursorOf) (xs ys : List Bool) (b : Bool) → e.shape ≡ c.shape → xs ≡ placed_at c → ys ≡ placed_at e → (IsTrue b ↔ (xs ≡ ys)) → b ≡ false →
    IsTrue false ↔ AreAlike c e
not-alike c e xs ys b shape here there test fails = (
  (λ x. absurd (cc)),
  λ alike. let clash : b ≡ true = test.1 (here ∙ map-named (is_named c.path) (is_named e.path) (transactions (history_of c.shape)) alike.placed
      ∙ ap (λ (s : ShapeOf). map (is_named e.path) (transactions (history_of s))) (sym shape) ∙ sym there) in absurd (cc),
)

pub are-alike : (c e : CursorOf) (xs ys : List Bool) (b : Bool) (ss us : List ObjState) (r : Bool) → e.shape ≡ c.shape →
    IsGood (objects_of c.shape) (history_of c.shape) c.path → IsGood (objects_of e.shape) (history_of e.shape) e.path →
    xs ≡ placed_at c → ys ≡ placed_at e → (IsTrue b ↔ (xs ≡ ys)) → b ≡ true → ss ≡ states_at c → us ≡ states_at e → (IsTrue r ↔ (ss ≡ us)) →
    IsTrue r ↔ AreAlike c e
are-alike c e xs ys b ss us r shape good other here there test holds now then states = (
  (λ yes. record {
    placed = named-same (objects_of c.shape) (history_of c.shape) c.path e.path good (subst (λ (s : ShapeOf). IsGood (objects_of s) (history_of s) e.path) shape other)
        (sym here ∙ test.0 holds ∙ there ∙ ap (λ (s : ShapeOf). map (is_named e.path) (transactions (history_of s))) shape);
    states = sym now ∙ states.0 yes ∙ then ∙ moved;
  }),
  λ alike. states.1 (now ∙ alike.states ∙ sym moved ∙ sym then),
)
  where
    moved : states_at e ≡ states_after (map opening_of (objects_of c.shape)) (kept (history_of c.shape) e.path)
    moved = ap (λ (s : ShapeOf). states_after (map opening_of (objects_of s)) (kept (history_of s) e.path)) shape
