-- What the tables' rows tell apart, an operation a line.
use Rattle.std.specs.Prelude.{◌≡◌, ℕ, ◌<◌, true, Some, bytes_eq, IfSome, refl, ⊤}
use Rattle.std.specs.declared.cmp.Ordering.{Ordering}
use Rattle.std.specs.declared.cmp.Ordering.TheVariants.{Less, Equal, Greater}
use Rattle.std.specs.Ordering.{int_cmp}
use Rattle.std.proofs.Common.{sym, ◌∙◌, ap, subst, arith}
use Rattle.std.proofs.lemmas.Slice.Eq.{bytes_eq-Decides}
use Rattle.base_values.specs.Exact.{int_exact, both_tie}
use Rattle.aud_event.specs.declared.object.Op.{Op}
use Rattle.aud_event.specs.declared.object.Op.TheVariants as op
use Rattle.aud_event.specs.declared.object.OpName.{OpName}
use Rattle.aud_event.specs.declared.object.OpName.TheVariants as word
use Rattle.aud_event.specs.contracts.object.OpOrd.TheImpl as op_order
use Rattle.aud_event.specs.contracts.object.OpNameOrd.TheImpl as name_order
use Rattle.aud_event.specs.declared.signature.Args.{Args}
use Rattle.aud_event.specs.declared.signature.Args.TheVariants as args
use Rattle.aud_event.specs.declared.signature.Format.{Format}
use Rattle.aud_event.specs.declared.signature.Format.TheVariants.{One, Two}
use Rattle.aud_event.specs.Limits.{transactions, most_transactions}
use Rattle.aud_event.specs.Objects.{name_of, args_of, op_with, signature_of, takes_kind, word_of_op, op_of_word}
use Rattle.aud_event.specs.Plans.{is_name}

-- what is below a format's limit is below that of all
pub below_most : (format : Format) (n : ℕ) → n < transactions format → n < most_transactions
below_most One n low = omega arith
below_most Two n low = low

-- ---- the derived orders tie only what is equal

abbrev pub IsTie : Ordering → Type 0
IsTie Less = ⊥
IsTie Equal = ⊤
IsTie Greater = ⊥

pub op_exact : (x y : Op) → op_order.ghosts.cmp x y ≡ Equal → x ≡ y
op_exact op.Read op.Read e = refl
op_exact (op.Write a) (op.Write b) e = ap op.Write (int_exact a b e)
op_exact op.Inc op.Inc e = refl
op_exact op.Dec op.Dec e = refl
op_exact op.Get op.Get e = refl
op_exact (op.Add a) (op.Add b) e = ap op.Add (int_exact a b e)
op_exact (op.Remove a) (op.Remove b) e = ap op.Remove (int_exact a b e)
op_exact (op.Contains a) (op.Contains b) e = ap op.Contains (int_exact a b e)
op_exact (op.Enq a) (op.Enq b) e = ap op.Enq (int_exact a b e)
op_exact op.Deq op.Deq e = refl
op_exact (op.Plus a) (op.Plus b) e = ap op.Plus (int_exact a b e)
op_exact (op.Put a x) (op.Put b y) e =
    let parts = both_tie (int_cmp a b) (int_cmp x y) e in
    let keys = int_exact a b parts.0 in
    let values = int_exact x y parts.1 in
    λ i. op.Put (keys i) (values i)
op_exact (op.Look a) (op.Look b) e = ap op.Look (int_exact a b e)
op_exact (op.Del a) (op.Del b) e = ap op.Del (int_exact a b e)
op_exact _ _ e = absurd (subst IsTie (sym e) tt)

pub op_name_exact : (x y : OpName) → name_order.ghosts.cmp x y ≡ Equal → x ≡ y
op_name_exact word.Read word.Read e = refl
op_name_exact word.Write word.Write e = refl
op_name_exact word.Inc word.Inc e = refl
op_name_exact word.Dec word.Dec e = refl
op_name_exact word.Get word.Get e = refl
op_name_exact word.Add word.Add e = refl
op_name_exact word.Remove word.Remove e = refl
op_name_exact word.Contains word.Contains e = refl
op_name_exact word.Enq word.Enq e = refl
op_name_exact word.Deq word.Deq e = refl
op_name_exact word.Plus word.Plus e = refl
op_name_exact word.Put word.Put e = refl
op_name_exact word.Look word.Look e = refl
op_name_exact word.Del word.Del e = refl
op_name_exact _ _ e = absurd (subst IsTie (sym e) tt)

-- ---- words

pub word-back : (name : OpName) → op_of_word (word_of_op name) ≡ Some name
word-back word.Read = refl
word-back word.Write = refl
word-back word.Inc = refl
word-back word.Dec = refl
word-back word.Get = refl
word-back word.Add = refl
word-back word.Remove = refl
word-back word.Contains = refl
word-back word.Enq = refl
word-back word.Deq = refl
word-back word.Plus = refl
word-back word.Put = refl
word-back word.Look = refl
word-back word.Del = refl

some-same : {X : Type 0} (x y : X) → Some x ≡ Some y → x ≡ y
some-same x y e = cc

-- operations of one word are one
pub same-from_words : (a b : OpName) → bytes_eq (word_of_op a) (word_of_op b) ≡ true → a ≡ b
same-from_words a b e =
    some-same a b (sym (word-back a) ∙ ap op_of_word ((bytes_eq-Decides (word_of_op a) (word_of_op b)).0 e) ∙ word-back b)

-- ---- operations and their arguments

pub op_with-again : (o : Op) → op_with (name_of o) (args_of o) ≡ Some o
op_with-again op.Read = refl
op_with-again (op.Write v) = refl
op_with-again op.Inc = refl
op_with-again op.Dec = refl
op_with-again op.Get = refl
op_with-again (op.Add v) = refl
op_with-again (op.Remove v) = refl
op_with-again (op.Contains v) = refl
op_with-again (op.Enq v) = refl
op_with-again op.Deq = refl
op_with-again (op.Plus v) = refl
op_with-again (op.Put k v) = refl
op_with-again (op.Look k) = refl
op_with-again (op.Del k) = refl

pub args_of-taken : (o : Op) → takes_kind (signature_of (name_of o)).takes (args_of o) ≡ true
args_of-taken op.Read = refl
args_of-taken (op.Write v) = refl
args_of-taken op.Inc = refl
args_of-taken op.Dec = refl
args_of-taken op.Get = refl
args_of-taken (op.Add v) = refl
args_of-taken (op.Remove v) = refl
args_of-taken (op.Contains v) = refl
args_of-taken (op.Enq v) = refl
args_of-taken op.Deq = refl
args_of-taken (op.Plus v) = refl
args_of-taken (op.Put k v) = refl
args_of-taken (op.Look k) = refl
args_of-taken (op.Del k) = refl

-- an operation that a name makes has the name and the arguments
pub op_with-parts : (n : OpName) (a : Args) → IfSome (op_with n a) (λ o. (name_of o ≡ n) × (args_of o ≡ a))
op_with-parts word.Read args.Nothing = (refl, refl)
op_with-parts word.Write (args.Number v) = (refl, refl)
op_with-parts word.Inc args.Nothing = (refl, refl)
op_with-parts word.Dec args.Nothing = (refl, refl)
op_with-parts word.Get args.Nothing = (refl, refl)
op_with-parts word.Add (args.Number v) = (refl, refl)
op_with-parts word.Remove (args.Number v) = (refl, refl)
op_with-parts word.Contains (args.Number v) = (refl, refl)
op_with-parts word.Enq (args.Number v) = (refl, refl)
op_with-parts word.Deq args.Nothing = (refl, refl)
op_with-parts word.Plus (args.Number v) = (refl, refl)
op_with-parts word.Put (args.Pair k v) = (refl, refl)
op_with-parts word.Look (args.Number k) = (refl, refl)
op_with-parts word.Del (args.Number k) = (refl, refl)
op_with-parts _ _ = tt

-- a word is of the form of a name
pub word-is_name : (n : OpName) → is_name (word_of_op n) ≡ true
word-is_name word.Read = refl
word-is_name word.Write = refl
word-is_name word.Inc = refl
word-is_name word.Dec = refl
word-is_name word.Get = refl
word-is_name word.Add = refl
word-is_name word.Remove = refl
word-is_name word.Contains = refl
word-is_name word.Enq = refl
word-is_name word.Deq = refl
word-is_name word.Plus = refl
word-is_name word.Put = refl
word-is_name word.Look = refl
word-is_name word.Del = refl
