-- The times of the day that pass a test are below the day, which is the law that each `TimeSet` keeps.
use Rattle.std.proofs.Common.{ℕ, ◌≡◌, Bool, ltb, ◌&&◌, nat_eq, sym, ap, ◌∙◌, arith, zero, suc}
use Rattle.std.proofs.lemmas.Bool.{and_parts, ltb-true}
use Rattle.std.proofs.lemmas.Bool.Decides.{nat_tests}
use Rattle.std.specs.List.{list_any}
use Rattle.std.specs.FinSet as set
use Rattle.tc25.specs.Day.{day}
use Rattle.tc25.specs.declared.rate.Rate.{Rate}
use Rattle.sets25.specs.Times.{Times, BelowDay, numbers_below, frames_below, every_time, times_where}

list_any-numbers_below : (n f : ℕ) → list_any (λ y. nat_eq y f) (numbers_below n) ≡ ltb f n
list_any-numbers_below zero f = grind (arith, nat_tests)
list_any-numbers_below (suc n) f = let later = list_any-numbers_below n f in grind (arith, nat_tests)

pub contains-frames_below : (n f : ℕ) → set.contains (frames_below n) f ≡ ltb f n
unfolding frames_below
contains-frames_below n f = set.contains-from_list_nat (numbers_below n) f ∙ list_any-numbers_below n f

pub contains-every_time : (rate : Rate) (f : ℕ) → set.contains (every_time rate) f ≡ ltb f (day rate)
unfolding every_time
contains-every_time rate f = contains-frames_below (day rate) f

pub contains-retain_nat : (s : Times) (test : ℕ → Bool) (f : ℕ) → set.contains (set.retain s test) f ≡ (set.contains s f && test f)
contains-retain_nat s test f = set.contains-retain s test f (λ x tie. ap test (sym (set.nat_cmp-IsAntisymmetric f x tie)))

pub contains-times_where : (rate : Rate) (test : ℕ → Bool) (f : ℕ) → set.contains (times_where rate test) f ≡ (ltb f (day rate) && test f)
unfolding times_where
contains-times_where rate test f = contains-retain_nat (every_time rate) test f ∙ ap (λ b. b && test f) (contains-every_time rate f)

-- times that pass a test are below the day
pub times_where_below : (rate : Rate) (test : ℕ → Bool) → BelowDay rate (times_where rate test)
times_where_below rate test t there =
    ltb-true t (day rate) (and_parts (ltb t (day rate)) (test t) (sym (contains-times_where rate test t) ∙ there)).0
