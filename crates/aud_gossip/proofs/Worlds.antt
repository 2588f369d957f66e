-- A running node has the states of the node of a world that took its log.
use Rattle.std.proofs.Common.{◌≡◌, List, [], ◌∷◌, ◌++◌, refl, sym, ap, ◌∙◌}
use Rattle.std.specs.declared.alloc.Global.{Global}
use Rattle.aud_know.specs.Items.{item_atoms}
use Rattle.aud_know.specs.Known.{KnownAtom, KnowledgeOf, knowing}
use Rattle.aud_node.specs.Logs.{Entry, atoms_in}
use Rattle.aud_world.specs.Logs.{LogsAreMoves, atoms_of_log}
use Rattle.aud_gossip.specs.Worlds.{NodesAreOfWorlds, items_of}

same_atoms : (log : List Entry) → atoms_of_log (items_of log) ≡ atoms_in log
same_atoms [] = refl
same_atoms (e ∷ log) = ap (λ (l : List KnownAtom). item_atoms e.1 ++ l) (same_atoms log)

items-append : (xs ys : List Entry) → items_of (xs ++ ys) ≡ items_of xs ++ items_of ys
items-append [] ys = refl
items-append (x ∷ xs) ys = ap (λ l. x.1 ∷ l) (items-append xs ys)

pub of_worlds : LogsAreMoves Global → NodesAreOfWorlds
of_worlds law plan count n moves log lt took =
    let held = law plan count n moves (items_of log) lt took in
    let made : List KnownAtom → KnowledgeOf = λ xs. knowing plan xs in
    record {
      whole = ap made (sym (same_atoms log)) ∙ held.whole;
      views = λ view begins.
          let parts : items_of log ≡ items_of view ++ items_of begins.0 = ap items_of (sym begins.1) ∙ items-append view begins.0 in
          let moment = held.views (items_of view) (items_of begins.0) parts in
          (moment.0, ap made (sym (same_atoms view)) ∙ moment.1);
    }
