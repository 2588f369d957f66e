-- A text of an order that begins with a hyphen, which `clap` would take for an option.
use Rattle.std.specs.Prelude.{ℕ, Bool, true, false, List, [], ◌∷◌, ◌++◌, ◌&&◌, if◌then◌else◌, codes, bytes_eq, nat_eq}

-- whether a text begins with a hyphen
abbrev pub begins_with_hyphen : List ℕ → Bool
begins_with_hyphen [] = false
begins_with_hyphen (c ∷ t) = nat_eq c 45

-- whether `--order` stands before a text that begins with a hyphen
abbrev pub is_order_of : List ℕ → List ℕ → Bool
is_order_of word next = bytes_eq word (codes "--order") && begins_with_hyphen next

-- the words, with such a text in one word with the option, as `--order=TEXT`
abbrev pub order_joined : List (List ℕ) → List (List ℕ)
order_joined [] = []
order_joined (w ∷ []) = w ∷ []
order_joined (w ∷ v ∷ ws) = if is_order_of w v then (codes "--order=" ++ v) ∷ order_joined ws else w ∷ order_joined (v ∷ ws)
