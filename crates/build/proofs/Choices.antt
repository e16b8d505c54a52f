-- Which of its cases a constructor takes: Append, Group, Nest and Text, by what they test. Assumes nothing.
use Prim.Native.Nat.{ℕ}
use mathlib.Core.Path.{◌≡◌, refl}
use mathlib.Core.Bool.{◌||◌, true, false}
use mathlib.Core.List.{List}
use lib.ListN.{length}
use lib.Dec.{eqb}
use Rattle.build.specs.Draft.{Draft, older, add, write}
use Rattle.build.specs.Parts.{is_nil, stays, nil, append, group, nest, text}

module _ (s : Draft) (a b : ℕ) where
  pub append_left : is_nil s a ≡ true → append s a b ≡ older s b
  unfolding append
  append_left e = rw e refl

  pub append_right : is_nil s a ≡ false → is_nil s b ≡ true → append s a b ≡ older s a
  unfolding append
  append_right e f = rw (e, f) refl

  pub append_both : is_nil s a ≡ false → is_nil s b ≡ false → append s a b ≡ add s 1 a b 0
  unfolding append
  append_both e f = rw (e, f) refl

module _ (s : Draft) (n : ℕ) where
  pub group-stays : stays s n ≡ true → group s n ≡ older s n
  unfolding group
  group-stays e = rw e refl

  pub group-wraps : stays s n ≡ false → group s n ≡ add s 2 n 0 0
  unfolding group
  group-wraps e = rw e refl

  module _ (amount way : ℕ) where
    pub nest-stays : is_nil s n || eqb amount 0 ≡ true → nest s n amount way ≡ older s n
    unfolding nest
    nest-stays e = rw e refl

    pub nest-wraps : is_nil s n || eqb amount 0 ≡ false → nest s n amount way ≡ add s 4 n amount way
    unfolding nest
    nest-wraps e = rw e refl

module _ (s : Draft) (bytes : List ℕ) (columns : ℕ) where
  pub text-none : eqb (length bytes) 0 ≡ true → text s bytes columns ≡ nil s
  unfolding text
  text-none e = rw e refl

  pub text-some : eqb (length bytes) 0 ≡ false → text s bytes columns ≡ add (write s bytes) 6 s.counts.bytes (length bytes) columns
  unfolding text
  text-some e = rw e refl
