-- A set of stations in text.
use Rattle.std.specs.Prelude.{ℕ, zero, suc, cond, List, [], ◌∷◌, ◌++◌, codes, decimal}
use Rattle.agreement.specs.Sets.{Set}

-- What stands between a text and one more station: a comma, unless the text is empty.
abbrev pub comma : List ℕ → List ℕ
comma [] = []
comma (x ∷ xs) = codes ","

-- The stations of X below n in ascending order, with a comma between each two.
unfoldable pub listed : ℕ → Set → List ℕ
listed zero X = []
listed (suc n) X = cond (X n) (listed n X ++ (comma (listed n X) ++ decimal n)) (listed n X)
