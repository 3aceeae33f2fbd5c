-- The tokens of printed lists of matchers mean the matchers, and tokens mean one thing only.
use Rattle.std.proofs.Common.{◌≡◌, ◌⊎◌, ℕ, ◌<◌, arith, length, refl, sym, ap, ap₂, ◌∙◌, ◌==◌, Bool, true, false, cond, inl, inr, Some, List, [], ◌∷◌, ◌++◌, map, flat_map, codes, append-nil, subst, All, Ok, Err}
use Rattle.std.specs.List.{join_by, slice_split, AllZip}
use Rattle.std.proofs.lemmas.List.{append_cancel_right}
use Rattle.std.proofs.lemmas.List.Elements.{All-append, All-cons, All-from_recursion, All-nil}
use Rattle.std.proofs.lemmas.List.Splits.{length-slice_split, slice_split_at, slice_split_none}
use Rattle.promql_text.specs.Quoting.{quoted_text}
use Rattle.promql_text.specs.Texts.{Text}
use Rattle.promql_text.proofs.quoting.Quotes.{unquoted_text-quoted}
use Rattle.promql_token.specs.Classes.{is_label}
use Rattle.promql_token.specs.Lexing.{ScannedText, pieces}
use Rattle.promql_token.specs.declared.ids.TheConstants.{T_COMMA, T_IDENTIFIER, T_LOR, T_STRING}
use Rattle.promql_label.specs.Operators.{IsMatcherOf}
use Rattle.promql_label.specs.PlainMatchers.{Operator, equal, not_equal, matches, matches_not, PlainMatcher, plain_matcher, PlainMatchers, plain_matchers, matchers_text}
use Rattle.promql_label.specs.ReadMatchers.{sorted_matchers, printed_groups, operator_id, parts_of, IsString, MeanMatcher, MeanGroup, MeanGroups}
use Rattle.promql_label.proofs.readback.MatcherTokens.{Token, inside, name_token, matcher_tokens, group_tokens, matchers_tokens, by_parts, tokens_by_parts}
use Rattle.promql_label.proofs.readback.PrintedTokens.{matchers_read}

-- ---- the tokens of a list mean its matchers

name_means : (name : Text) → (name_token name ≡ (T_IDENTIFIER, name)) ⊎ IsString (name_token name) name
name_means name = go (is_label name)
  where
    token : Bool → Token
    token b = (cond b T_IDENTIFIER T_STRING, cond b name (quoted_text name))

    go : (b : Bool) → (token b ≡ (T_IDENTIFIER, name)) ⊎ IsString (token b) name
    go true = inl refl
    go false = inr (refl, unquoted_text-quoted name)

matcher_means : (c : PlainMatcher) → MeanMatcher (matcher_tokens c) c
matcher_means (plain_matcher op name value) = (name_means name, refl, (refl, unquoted_text-quoted value))

each_means : {X A : Type 0} (R : A → X → Type 0) (g : X → A) → ((x : X) → R (g x) x) → (xs : List X) → AllZip R (map g xs) xs
each_means R g each [] = tt
each_means R g each (x ∷ xs) = (each x, each_means R g each xs)

-- what is joined by a token is split where it is
split_joined : {X : Type 0} (p : Token → Bool) (g : X → List Token) (t : Token) → p t ≡ true → ((x : X) → All (λ k. p k ≡ false) (g x)) → (x : X) (xs : List X)
    → slice_split p (join_by g (t ∷ []) (x ∷ xs)) ≡ map g (x ∷ xs)
split_joined p g t is each x [] = ap (slice_split p) (append-nil (g x)) ∙ slice_split_none p (g x) (each x)
split_joined p g t is each x (y ∷ ys) = slice_split_at p (g x) t (join_by g (t ∷ []) (y ∷ ys)) (each x) is ∙ ap (λ parts. g x ∷ parts) (split_joined p g t is each y ys)

-- the token has another id
abbrev IsNo : ℕ → Token → Type 0
IsNo id k = (k.0 == id) ≡ false

matcher_without : (id : ℕ) → ((b : Bool) → (cond b T_IDENTIFIER T_STRING == id) ≡ false) → ((op : Operator) → (operator_id op == id) ≡ false) → (c : PlainMatcher) → All (IsNo id) (matcher_tokens c)
matcher_without id names operators (plain_matcher op name value) =
    All-from_recursion (IsNo id) (matcher_tokens (plain_matcher op name value)) (names (is_label name), (operators op, (names false, tt)))

matcher_without_comma : (c : PlainMatcher) → All (IsNo T_COMMA) (matcher_tokens c)
matcher_without_comma = matcher_without T_COMMA names operators
  where
    names : (b : Bool) → (cond b T_IDENTIFIER T_STRING == T_COMMA) ≡ false
    names true = refl
    names false = refl

    operators : (op : Operator) → (operator_id op == T_COMMA) ≡ false
    operators equal = refl
    operators not_equal = refl
    operators (matches w) = refl
    operators (matches_not w) = refl

matcher_without_or : (c : PlainMatcher) → All (IsNo T_LOR) (matcher_tokens c)
matcher_without_or = matcher_without T_LOR names operators
  where
    names : (b : Bool) → (cond b T_IDENTIFIER T_STRING == T_LOR) ≡ false
    names true = refl
    names false = refl

    operators : (op : Operator) → (operator_id op == T_LOR) ≡ false
    operators equal = refl
    operators not_equal = refl
    operators (matches w) = refl
    operators (matches_not w) = refl

group_without_or : (cs : List PlainMatcher) → All (IsNo T_LOR) (group_tokens cs)
group_without_or [] = All-nil (IsNo T_LOR)
group_without_or (c ∷ cs) = All-append (IsNo T_LOR) (matcher_tokens c) (more cs) (matcher_without_or c) (rest cs)
  where
    more : List PlainMatcher → List Token
    more = flat_map (λ d. (T_COMMA, codes ",") ∷ matcher_tokens d)

    rest : (ds : List PlainMatcher) → All (IsNo T_LOR) (more ds)
    rest [] = All-nil (IsNo T_LOR)
    rest (d ∷ ds) =
        All-append (IsNo T_LOR) ((T_COMMA, codes ",") ∷ matcher_tokens d) (more ds) (All-cons (IsNo T_LOR) (T_COMMA, codes ",") (matcher_tokens d) refl (matcher_without_or d)) (rest ds)

group_means : (cs : List PlainMatcher) → MeanGroup (group_tokens cs) cs
group_means [] = inl (refl, refl)
group_means (c ∷ cs) =
    inr (subst (λ parts. AllZip MeanMatcher parts (c ∷ cs)) (sym (split_joined (λ k. k.0 == T_COMMA) matcher_tokens (T_COMMA, codes ",") refl matcher_without_comma c cs))
    (each_means MeanMatcher matcher_tokens matcher_means (c ∷ cs)))

groups_mean : (g : List PlainMatcher) (gs : List (List PlainMatcher)) → MeanGroups (join_by group_tokens ((T_LOR, codes "or") ∷ []) (g ∷ gs)) (g ∷ gs)
groups_mean g gs =
    subst (λ parts. AllZip MeanGroup parts (g ∷ gs)) (sym (split_joined (λ k. k.0 == T_LOR) group_tokens (T_LOR, codes "or") refl group_without_or g gs))
    (each_means MeanGroup group_tokens group_means (g ∷ gs))

pub tokens_mean : (cs : PlainMatchers) → MeanGroups (matchers_tokens cs) (printed_groups cs)
tokens_mean (plain_matchers plain []) = groups_mean (sorted_matchers plain) []
tokens_mean (plain_matchers plain (g ∷ gs)) = groups_mean g gs

pub tokens_read : (cs : PlainMatchers)
    → (ts : List (ℕ × Text)) × (ts ≡ join_by (join_by tokens_by_parts ((T_COMMA, codes ",") ∷ [])) ((T_LOR, codes "or") ∷ []) (printed_groups cs))
    × MeanGroups ts (printed_groups cs) × ((depth : ℕ) (r : Text) → pieces (inside depth) (matchers_text cs ++ r) ≡ map (λ t. Ok t) ts ++ pieces (inside depth) r)
tokens_read cs = (matchers_tokens cs, by_parts cs, tokens_mean cs, λ depth r. matchers_read depth cs r)

-- ---- tokens mean one thing only

one_string : (t : Token) (r s : Text) → IsString t r → IsString t s → r ≡ s
one_string t r s a b = let same : Some r ≡ Some s = sym a.1 ∙ b.1 in cc

one_name : (t : Token) (a b : Text) → (t ≡ (T_IDENTIFIER, a)) ⊎ IsString t a → (t ≡ (T_IDENTIFIER, b)) ⊎ IsString t b → a ≡ b
one_name t a b (inl p) (inl q) = ap (λ k. k.1) (sym p ∙ q)
one_name t a b (inl p) (inr q) = absurd (omega (arith, ap (λ k. k.0) p, q.0))
one_name t a b (inr p) (inl q) = absurd (omega (arith, ap (λ k. k.0) q, p.0))
one_name t a b (inr p) (inr q) = one_string t a b p q

one_matcher : (ts : List Token) (c d : PlainMatcher) → MeanMatcher ts c → MeanMatcher ts d → parts_of c ≡ parts_of d
one_matcher (n ∷ o ∷ v ∷ []) (plain_matcher op name value) (plain_matcher oq other w) a b =
    let operators = sym a.1 ∙ b.1 in
    let names = one_name n name other a.0 b.0 in
    let values = one_string v value w a.2 b.2 in
    λ i. (operators i, names i, values i)
one_matcher _ c d a b = absurd a

-- what one part means one way, a list of parts does
one_list : {A X Y : Type 0} (R : A → X → Type 0) (f : X → Y) → ((a : A) (x y : X) → R a x → R a y → f x ≡ f y) → (parts : List A) (xs ys : List X) → AllZip R parts xs → AllZip R parts ys → map f xs ≡ map f ys
one_list R f each [] [] [] h k = refl
one_list R f each [] [] (y ∷ ys) h k = absurd k
one_list R f each [] (x ∷ xs) ys h k = absurd h
one_list R f each (a ∷ parts) [] ys h k = absurd h
one_list R f each (a ∷ parts) (x ∷ xs) [] h k = absurd k
one_list R f each (a ∷ parts) (x ∷ xs) (y ∷ ys) h k = ap₂ (λ z zs. z ∷ zs) (each a x y h.0 k.0) (one_list R f each parts xs ys h.1 k.1)

-- no matcher has no tokens
no_matchers : (ts : List Token) (cs : List PlainMatcher) → ts ≡ [] → AllZip MeanMatcher (slice_split (λ t. t.0 == T_COMMA) ts) cs → ⊥
no_matchers [] [] e h = h
no_matchers [] (c ∷ cs) e h = h.0
no_matchers (t ∷ ts) cs e h = absurd (cc)

one_group : (ts : List Token) (cs ds : List PlainMatcher) → MeanGroup ts cs → MeanGroup ts ds → map parts_of cs ≡ map parts_of ds
one_group ts cs ds (inl p) (inl q) = ap (map parts_of) (p.1 ∙ sym q.1)
one_group ts cs ds (inl p) (inr q) = absurd (no_matchers ts ds p.0 q)
one_group ts cs ds (inr p) (inl q) = absurd (no_matchers ts cs q.0 p)
one_group ts cs ds (inr p) (inr q) = one_list MeanMatcher parts_of one_matcher (slice_split (λ t. t.0 == T_COMMA) ts) cs ds p q

pub one_meaning : (ts : List (ℕ × Text)) (gs hs : List (List PlainMatcher)) → MeanGroups ts gs → MeanGroups ts hs → map (map parts_of) gs ≡ map (map parts_of) hs
one_meaning ts = one_list MeanGroup (map parts_of) one_group (slice_split (λ t. t.0 == T_LOR) ts)

-- ---- tokens mean what a list prints

some_group : (parts : List (List Token)) → 0 < length parts → (gs : List (List PlainMatcher)) → AllZip MeanGroup parts gs → (cs : PlainMatchers) × (printed_groups cs ≡ gs)
some_group [] some gs h = absurd (omega (arith, some))
some_group (part ∷ parts) some [] h = absurd h
some_group (part ∷ parts) some (g ∷ gs) h = (plain_matchers [] (g ∷ gs), refl)

pub nothing_else : (ts : List (ℕ × Text)) (gs : List (List PlainMatcher)) → MeanGroups ts gs → (cs : PlainMatchers) × (printed_groups cs ≡ gs)
nothing_else ts = some_group (slice_split (λ t. t.0 == T_LOR) ts) (omega (arith, length-slice_split (λ (t : Token). t.0 == T_LOR) ts))

-- a matcher that was built of an id, a name and a value has these parts
pub parts_built : (id : ℕ) (name value : Text) (c : PlainMatcher) → IsMatcherOf id name value c → parts_of c ≡ (id, name, value)
parts_built id name value (plain_matcher equal n v) h = λ i. (sym h.0 i, h.1 i, h.2 i)
parts_built id name value (plain_matcher not_equal n v) h = λ i. (sym h.0 i, h.1 i, h.2 i)
parts_built id name value (plain_matcher (matches w) n v) h = λ i. (sym h.0.0 i, h.1 i, h.2 i)
parts_built id name value (plain_matcher (matches_not w) n v) h = λ i. (sym h.0.0 i, h.1 i, h.2 i)

-- ---- lists that print alike

abbrev tokens_of : List ScannedText → List Token
tokens_of [] = []
tokens_of (Ok t ∷ ws) = t ∷ tokens_of ws
tokens_of (Err e ∷ ws) = tokens_of ws

tokens_again : (ts : List Token) → tokens_of (map (λ t. Ok t) ts) ≡ ts
tokens_again [] = refl
tokens_again (t ∷ ts) = ap (λ us. t ∷ us) (tokens_again ts)

pub alike : (cs ds : PlainMatchers) → matchers_text cs ≡ matchers_text ds → map (map parts_of) (printed_groups cs) ≡ map (map parts_of) (printed_groups ds)
alike cs ds same =
    let end = pieces (inside 0) [] in
    let read = append_cancel_right _ _ end (sym (matchers_read 0 cs []) ∙ ap (λ s. pieces (inside 0) (s ++ [])) same ∙ matchers_read 0 ds []) in
    let tokens : matchers_tokens cs ≡ matchers_tokens ds = sym (tokens_again (matchers_tokens cs)) ∙ ap tokens_of read ∙ tokens_again (matchers_tokens ds) in
    one_meaning (matchers_tokens ds) (printed_groups cs) (printed_groups ds) (subst (λ ts. MeanGroups ts (printed_groups cs)) tokens (tokens_mean cs)) (tokens_mean ds)
