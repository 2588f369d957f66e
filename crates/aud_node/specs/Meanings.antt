-- What contracts see of a node, of a pass, and of a beginning of a node's history.
use Rattle.std.specs.Prelude.{ℕ, ◌≡◌, ◌++◌, Bool, List, [], ◌∷◌, MatchBool, take}
use Rattle.std.specs.declared.alloc.Global.{Global}
use mathlib.Core.List.{IsPrefix}
use Rattle.logbook.specs.Pages.{Book}
use Rattle.aud_event.specs.Meanings.{PlanOf}
use Rattle.aud_know.specs.declared.item.Item.{Item}
use Rattle.aud_node.specs.Logs.{Entry, own}

-- a beginning of the history of the node of a number
pub record FrontOf : Type 0 where
  pub number : ℕ
  pub book : Book
  pub log : List Entry

-- the beginning in which nothing stands
abbrev pub unseen : ℕ → Book → FrontOf
unseen number book = record { number = number; book = book; log = [] }

-- the front that has one offer more
abbrev pub longer : FrontOf → Entry → FrontOf
longer front offer = record { number = front.number; book = front.book; log = front.log ++ offer ∷ [] }

-- the second front is of the same node, and begins with the first
abbrev pub Begins : FrontOf → FrontOf → Type 0
Begins front other = (front.number ≡ other.number) × IsPrefix front.log other.log

-- the fronts are of two nodes, or the first begins with the second
abbrev pub IsNoBeginning : FrontOf → FrontOf → Type 0
IsNoBeginning front other = front.number ≡ other.number → IsPrefix other.log front.log

-- the test says whether the first front begins the second
abbrev pub ReportsWhetherBegins : Bool → FrontOf → FrontOf → Type 0
ReportsWhetherBegins test front other = MatchBool test (Begins front other) (IsNoBeginning front other)

-- a new history
pub record OpenedOf : Type 0 where
  pub number : ℕ
  pub book : Book

-- a node's number, its plan, and how many seats it has
pub record NodeOf : Type 0 where
  pub number : ℕ
  pub plan : PlanOf
  pub seats : ℕ

-- the node of a new history, with a plan and so many seats
abbrev pub node_of : OpenedOf → PlanOf → ℕ → NodeOf
node_of opened plan seats = record { number = opened.number; plan = plan; seats = seats }

-- a seat at the node of a number, how many of its offers were answered Ok, and its view: the offers that it has seen
pub record PassOf : Type 0 where
  pub number : ℕ
  pub seat : ℕ
  pub offers : ℕ
  pub view : List Entry

-- the pass of a seat of a new node
abbrev pub first_pass : ℕ → ℕ → PassOf
first_pass number seat = record { number = number; seat = seat; offers = 0; view = [] }

-- the pass's offers that were answered Ok, in order
abbrev pub mine : PassOf → List (Item Global)
mine p = take p.offers (own p.seat p.view)

-- the entries of the pass's seat in its view are its offers, each once, in order
abbrev pub SeesOwnOffers : PassOf → Type 0
SeesOwnOffers p = own p.seat p.view ≡ mine p

-- the same pass, whose view begins with the old one, and with the same offers
abbrev pub GoesOn : PassOf → PassOf → Type 0
GoesOn old new = IsPrefix old.view new.view × (mine new ≡ mine old) × (new.number ≡ old.number) × (new.seat ≡ old.seat) × (new.offers ≡ old.offers)

-- the first pass has seen all that the second had seen
abbrev pub HasSeen : PassOf → PassOf → Type 0
HasSeen p q = IsPrefix q.view p.view

-- the log begins with the pass's view, and its entries of the pass's seat are the pass's offers, each once, in order
abbrev pub Agrees : List Entry → PassOf → Type 0
Agrees log p = IsPrefix p.view log × (own p.seat log ≡ mine p)

-- the pass is of the node
abbrev pub IsOfNode : NodeOf → PassOf → Type 0
IsOfNode n p = p.number ≡ n.number
