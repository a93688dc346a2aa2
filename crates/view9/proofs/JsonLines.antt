-- Parts of an object that are written one after another are an object.
use Rattle.std.proofs.Common.{◌≡◌, ◌≤◌, ◌++◌, ◌∷◌, ◌∙◌, ℕ, suc, List, [], ap, append_assoc, append-nil, arith, refl, sym}
use Rattle.json.proofs.Printed.Trees.{document-print}
use Rattle.json.specs.Json.{Items, Json, Members, array, document, item, member, no_items, no_members, object}
use Rattle.json.specs.Print.{IsNumber, print}
use Rattle.json.specs.Token.{Token}
use Rattle.json.specs.Tree.{HasNumbers, ItemsHaveNumbers, MembersHaveNumbers, depth, items_depth, items_tokens, json_tokens, members_depth, members_tokens}
use Rattle.json.specs.Written.{Written}
use Rattle.view9.specs.Json.{IsObject}
use Rattle.view9.specs.Working.{AppendsItems, AppendsMembers, AppendsTokens, AppendsValue, front_of_items, front_of_members}

-- ---- tokens

then_tokens : (a b c : Written) (xs ys : List Token) → AppendsTokens a b xs → AppendsTokens b c ys → AppendsTokens a c (xs ++ ys)
then_tokens a b c xs ys first second =
    (second.0 ∙ ap (λ ts. ts ++ ys) first.0 ∙ append_assoc a.tokens xs ys, second.1 ∙ first.1)

no_tokens : (a : Written) → AppendsTokens a a []
no_tokens a = (sym (append-nil a.tokens), refl)

-- ---- members

abbrev join : Members → Members → Members
join no_members ns = ns
join (member k j ms) ns = member k j (join ms ns)

front-join : (ms ns : Members) → front_of_members (join ms ns) ≡ front_of_members ms ++ front_of_members ns
front-join no_members ns = refl
front-join (member k j ms) ns =
    ap (λ ts. Token.key k ∷ (json_tokens j ++ ts)) (front-join ms ns)
    ∙ ap (λ ts. Token.key k ∷ ts) (sym (append_assoc (json_tokens j) (front_of_members ms) (front_of_members ns)))

numbers-join : (ms ns : Members) → MembersHaveNumbers ms → MembersHaveNumbers ns → MembersHaveNumbers (join ms ns)
numbers-join no_members ns have too = too
numbers-join (member k j ms) ns have too = (have.0, numbers-join ms ns have.1 too)

depth-join : (most : ℕ) (ms ns : Members) → members_depth ms ≤ most → members_depth ns ≤ most → members_depth (join ms ns) ≤ most
depth-join most no_members ns le too = too
depth-join most (member k j ms) ns le too = let rest = depth-join most ms ns (grind arith) too in grind arith

closed : (ms : Members) → front_of_members ms ++ Token.end_object ∷ [] ≡ members_tokens ms
closed no_members = refl
closed (member k j ms) =
    ap (λ ts. Token.key k ∷ ts) (append_assoc (json_tokens j) (front_of_members ms) (Token.end_object ∷ []))
    ∙ ap (λ ts. Token.key k ∷ (json_tokens j ++ ts)) (closed ms)

pub no_more_members : (most : ℕ) (a : Written) → AppendsMembers most a a
no_more_members most a = record { members = no_members; numbers = tt; shallow = omega arith; appends = no_tokens a }

pub then_members : (most : ℕ) (a b c : Written) → AppendsMembers most a b → AppendsMembers most b c → AppendsMembers most a c
then_members most a b c first second = record {
  members = join first.members second.members;
  numbers = numbers-join first.members second.members first.numbers second.numbers;
  shallow = depth-join most first.members second.members first.shallow second.shallow;
  appends = rw (front-join first.members second.members) (then_tokens a b c (front_of_members first.members) (front_of_members second.members) first.appends second.appends);
}

pub a_member : (most : ℕ) (a b c : Written) (k : List ℕ) → AppendsTokens a b (Token.key k ∷ []) → AppendsValue most b c → AppendsMembers most a c
a_member most a b c k key written = record {
  members = member k written.value no_members;
  numbers = (written.numbers, tt);
  shallow = let le = written.shallow in grind arith;
  appends = rw (append-nil (json_tokens written.value)) (then_tokens a b c (Token.key k ∷ []) (json_tokens written.value) key written.appends);
}

object_tokens : (most : ℕ) (a b c e : Written) → AppendsTokens a b (Token.begin_object ∷ []) → (within : AppendsMembers most b c)
    → AppendsTokens c e (Token.end_object ∷ []) → AppendsTokens a e (json_tokens (object within.members))
object_tokens most a b c e begin within end =
    rw (sym (closed within.members))
    (then_tokens a b e (Token.begin_object ∷ []) (front_of_members within.members ++ Token.end_object ∷ []) begin
    (then_tokens b c e (front_of_members within.members) (Token.end_object ∷ []) within.appends end))

pub an_object : (most : ℕ) (a b c e : Written) → AppendsTokens a b (Token.begin_object ∷ []) → AppendsMembers most b c
    → AppendsTokens c e (Token.end_object ∷ []) → AppendsValue (suc most) a e
an_object most a b c e begin within end = record {
  value = object within.members;
  numbers = within.numbers;
  shallow = let le = within.shallow in omega arith;
  appends = object_tokens most a b c e begin within end;
}

-- ---- items

abbrev join_items : Items → Items → Items
join_items no_items ks = ks
join_items (item j js) ks = item j (join_items js ks)

front-join_items : (js ks : Items) → front_of_items (join_items js ks) ≡ front_of_items js ++ front_of_items ks
front-join_items no_items ks = refl
front-join_items (item j js) ks =
    ap (λ ts. json_tokens j ++ ts) (front-join_items js ks) ∙ sym (append_assoc (json_tokens j) (front_of_items js) (front_of_items ks))

numbers-join_items : (js ks : Items) → ItemsHaveNumbers js → ItemsHaveNumbers ks → ItemsHaveNumbers (join_items js ks)
numbers-join_items no_items ks have too = too
numbers-join_items (item j js) ks have too = (have.0, numbers-join_items js ks have.1 too)

depth-join_items : (most : ℕ) (js ks : Items) → items_depth js ≤ most → items_depth ks ≤ most → items_depth (join_items js ks) ≤ most
depth-join_items most no_items ks le too = too
depth-join_items most (item j js) ks le too = let rest = depth-join_items most js ks (grind arith) too in grind arith

closed_items : (js : Items) → front_of_items js ++ Token.end_array ∷ [] ≡ items_tokens js
closed_items no_items = refl
closed_items (item j js) =
    append_assoc (json_tokens j) (front_of_items js) (Token.end_array ∷ []) ∙ ap (λ ts. json_tokens j ++ ts) (closed_items js)

pub no_more_items : (most : ℕ) (a : Written) → AppendsItems most a a
no_more_items most a = record { items = no_items; numbers = tt; shallow = omega arith; appends = no_tokens a }

pub then_items : (most : ℕ) (a b c : Written) → AppendsItems most a b → AppendsItems most b c → AppendsItems most a c
then_items most a b c first second = record {
  items = join_items first.items second.items;
  numbers = numbers-join_items first.items second.items first.numbers second.numbers;
  shallow = depth-join_items most first.items second.items first.shallow second.shallow;
  appends = rw (front-join_items first.items second.items) (then_tokens a b c (front_of_items first.items) (front_of_items second.items) first.appends second.appends);
}

pub an_item : (most : ℕ) (a b : Written) (s : List ℕ) → AppendsTokens a b (Token.string s ∷ []) → AppendsItems most a b
an_item most a b s appends = record { items = item (Json.string s) no_items; numbers = (tt, tt); shallow = omega arith; appends = appends }

pub a_list : (most : ℕ) (a b c e : Written) → AppendsTokens a b (Token.begin_array ∷ []) → AppendsItems most b c
    → AppendsTokens c e (Token.end_array ∷ []) → AppendsValue (suc most) a e
a_list most a b c e begin within end = record {
  value = array within.items;
  numbers = within.numbers;
  shallow = let le = within.shallow in omega arith;
  appends = rw (sym (closed_items within.items))
      (then_tokens a b e (Token.begin_array ∷ []) (front_of_items within.items ++ Token.end_array ∷ []) begin
      (then_tokens b c e (front_of_items within.items) (Token.end_array ∷ []) within.appends end));
}

-- ---- values, and the whole line

pub a_word : (most : ℕ) (a b : Written) (s : List ℕ) → AppendsTokens a b (Token.string s ∷ []) → AppendsValue most a b
a_word most a b s appends = record { value = Json.string s; numbers = tt; shallow = omega arith; appends = appends }

pub a_line : (a b c e : Written) (text : List ℕ) → a.tokens ≡ [] → a.before ≡ [] → AppendsTokens a b (Token.begin_object ∷ []) → AppendsMembers 2 b c
    → AppendsTokens c e (Token.end_object ∷ []) → text ≡ e.before ++ print e.tokens → IsObject text
a_line a b c e text fresh empty begin within end is =
    let whole = object_tokens 2 a b c e begin within end in
    let before = whole.1 ∙ empty in
    let tokens = whole.0 ∙ ap (λ ts. ts ++ json_tokens (object within.members)) fresh in
    let shallow : depth (object within.members) ≤ 128 = let le = within.shallow in omega arith in
    (within.members, ap document (is ∙ ap (λ ts. ts ++ print e.tokens) before ∙ ap print tokens) ∙ document-print (object within.members) within.numbers shallow)

pub deeper : (a b : Written) → AppendsValue 1 a b → AppendsValue 2 a b
deeper a b written = record { value = written.value; numbers = written.numbers; shallow = let le = written.shallow in omega arith; appends = written.appends }

pub a_number : (a b : Written) (s : List ℕ) → IsNumber s → AppendsTokens a b (Token.number s ∷ []) → AppendsValue 2 a b
a_number a b s is appends = record { value = Json.number s; numbers = is; shallow = omega arith; appends = appends }
