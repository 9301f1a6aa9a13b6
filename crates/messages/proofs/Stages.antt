-- The stages of framing, on numbers and on given readings: more bytes change neither a whole message nor a fault.
use Rattle.std.proofs.Common.{
  ◌≡◌,
  ◌⊎◌,
  inl,
  inr,
  ℕ,
  ◌+◌,
  ◌<◌,
  ◌≤◌,
  Bool,
  true,
  false,
  Option,
  None,
  Some,
  Ok,
  Err,
  refl,
  ap,
  sym,
  subst,
  ◌∙◌,
  arith,
}
use Rattle.std.specs.Prelude.{nat_lt, ◌==◌}
use Rattle.std.proofs.lemmas.Bool.{ltb-true, ltb-false}
use Rattle.values.specs.Reading.{Reading, ◌>>=◌}
use Rattle.schema_meta.specs.Stage.{Meta, Whole, end_of}
use Rattle.schema_meta.specs.Framing.{body_at, message_at, sized, staged}

-- a test on two numbers, with its result
lt_test : (a b : ℕ) (t : Bool) → nat_lt a b ≡ t → ((nat_lt a b ≡ true) × (a < b)) ⊎ ((nat_lt a b ≡ false) × (b ≤ a))
lt_test a b true e = inl (e, ltb-true a b e)
lt_test a b false e = inr (e, ltb-false a b e)

pub lt_cases : (a b : ℕ) → ((nat_lt a b ≡ true) × (a < b)) ⊎ ((nat_lt a b ≡ false) × (b ≤ a))
lt_cases a b = lt_test a b (nat_lt a b) refl

pub not_lt : (a b : ℕ) → b ≤ a → nat_lt a b ≡ false
not_lt a b h = elim (lt_cases a b) [ inl t ↦ absurd (omega arith) | inr t ↦ t.0 ]

-- the last stage
body_stable :
    (len more front : ℕ) (m : Meta) → len ≤ more
    → (body_at len front m ≡ Ok None) ⊎ (body_at more front m ≡ body_at len front m)
body_stable len more front m h =
    elim (lt_cases len (front + m.body)) [
      | inl t ↦ inl (rw t.0 refl)
      | inr t ↦ let k : nat_lt more (front + m.body) ≡ false = not_lt more (front + m.body) (omega arith) in
          inr (rw (t.0, k) refl)
    ]

body_there :
    (len front : ℕ) (m : Meta) (w : Whole) → body_at len front m ≡ Ok (Some w)
    → (w.front ≡ front) × (front + w.meta.body ≤ len) × (m ≡ w.meta)
body_there len front m w h =
    elim (lt_cases len (front + m.body)) [
      | inl t ↦ let k = rw t.0 at h in absurd (cc)
      | inr t ↦
          let k = rw t.0 at h in
          let e : record { front = front; meta = m } ≡ w = cc in
          subst (λ (v : Whole). (v.front ≡ front) × (front + v.meta.body ≤ len) × (m ≡ v.meta)) e (refl, t.1, refl)
    ]

-- the metadata stage
rest_stable :
    (len more front : ℕ) (a : Reading Meta) → len ≤ more
    → ((a >>= body_at len front) ≡ Ok None) ⊎ ((a >>= body_at more front) ≡ (a >>= body_at len front))
rest_stable len more front (Ok m) h = body_stable len more front m h
rest_stable len more front (Err fs) h = inr refl

pub message_stable :
    (len more front : ℕ) (a b : Reading Meta) → len ≤ more → (front ≤ len → b ≡ a)
    → (message_at len front a ≡ Ok None) ⊎ (message_at more front b ≡ message_at len front a)
unfolding message_at
message_stable len more front a b h e =
    elim (lt_cases len front) [
      | inl t ↦ inl (rw t.0 refl)
      | inr t ↦
          let k : nat_lt more front ≡ false = not_lt more front (omega arith) in
          let P : Reading Meta → Type 0 =
          λ c. (message_at len front a ≡ Ok None) ⊎ (message_at more front c ≡ message_at len front a) in
          subst P (sym (e t.1)) (rw (t.0, k) (rest_stable len more front a h))
    ]

rest_there :
    (len front : ℕ) (a : Reading Meta) (w : Whole) → (a >>= body_at len front) ≡ Ok (Some w)
    → (w.front ≡ front) × (front + w.meta.body ≤ len) × (a ≡ Ok w.meta)
rest_there len front (Ok m) w h = let p = body_there len front m w h in (p.0, p.1, ap (λ v. Ok v) p.2)
rest_there len front (Err fs) w h = absurd (cc)

pub message_there :
    (len front : ℕ) (a : Reading Meta) (w : Whole) → message_at len front a ≡ Ok (Some w)
    → (w.front ≡ front) × (front + w.meta.body ≤ len) × (a ≡ Ok w.meta)
unfolding message_at
message_there len front a w h =
    elim (lt_cases len front) [
      | inl t ↦ let k = rw t.0 at h in absurd (cc)
      | inr t ↦ let k = rw t.0 at h in rest_there len front a w k
    ]

-- a message that is whole is so as soon as its bytes are there
pub message_whole :
    (len front : ℕ) (a : Reading Meta) (w : Whole) → w.front ≡ front → front + w.meta.body ≤ len → a ≡ Ok w.meta
    → message_at len front a ≡ Ok (Some w)
unfolding message_at
message_whole len front a w f h e =
    let k : nat_lt len front ≡ false = not_lt len front (omega arith) in
    let j : nat_lt len (front + w.meta.body) ≡ false = not_lt len (front + w.meta.body) h in
    rw (k, e, j, ← f) refl

-- the first stage, and all of them
eq_test : (a b : ℕ) (t : Bool) → (a == b) ≡ t → ((a == b) ≡ true) ⊎ ((a == b) ≡ false)
eq_test a b true e = inl e
eq_test a b false e = inr e

eq_cases : (a b : ℕ) → ((a == b) ≡ true) ⊎ ((a == b) ≡ false)
eq_cases a b = eq_test a b (a == b) refl

sized_stable :
    (len more : ℕ) (end : Reading (Option Whole)) (f g : ℕ → Reading Meta) (n : ℕ) → len ≤ more
    → ((k : ℕ) → 8 + k ≤ len → g k ≡ f k)
    → (sized len end f n ≡ Ok None) ⊎ (sized more end g n ≡ sized len end f n)
sized_stable len more end f g n h e =
    elim (eq_cases n 0) [
      | inl t ↦ inr (rw t refl)
      | inr t ↦ rw t (message_stable len more (8 + n) (f n) (g n) h (e n))
    ]

sizes_stable :
    (len more : ℕ) (size : Reading ℕ) (end : Reading (Option Whole)) (f g : ℕ → Reading Meta) → len ≤ more
    → ((k : ℕ) → 8 + k ≤ len → g k ≡ f k)
    → ((size >>= sized len end f) ≡ Ok None) ⊎ ((size >>= sized more end g) ≡ (size >>= sized len end f))
sizes_stable len more (Ok n) end f g h e = sized_stable len more end f g n h e
sizes_stable len more (Err fs) end f g h e = inr refl

pub staged_stable :
    (len more : ℕ) (size other : Reading ℕ) (end : Reading (Option Whole)) (f g : ℕ → Reading Meta) → len ≤ more
    → (8 ≤ len → other ≡ size) → ((k : ℕ) → 8 + k ≤ len → g k ≡ f k)
    → (staged len size end f ≡ Ok None) ⊎ (staged more other end g ≡ staged len size end f)
unfolding staged
staged_stable len more size other end f g h s e =
    elim (lt_cases len 8) [
      | inl t ↦ inl (rw t.0 refl)
      | inr t ↦
          let k : nat_lt more 8 ≡ false = not_lt more 8 (omega arith) in
          let P : Reading ℕ → Type 0 =
          λ c. (staged len size end f ≡ Ok None) ⊎ (staged more c end g ≡ staged len size end f) in
          subst P (sym (s t.1)) (rw (t.0, k) (sizes_stable len more size end f g h e))
    ]

-- the end mark ends at 8, and any other message after its metadata
sized_there :
    (len n : ℕ) (end : Reading (Option Whole)) (f : ℕ → Reading Meta) (w : Whole) → 8 ≤ len
    → ((v : Whole) → end ≡ Ok (Some v) → (v.front ≡ 8) × (v.meta.body ≡ 0)) → sized len end f n ≡ Ok (Some w)
    → (8 ≤ w.front) × (end_of w ≤ len)
sized_there len n end f w l e h =
    elim (eq_cases n 0) [
      | inl t ↦ let k = rw t at h in let p = e w k in (omega arith, omega arith)
      | inr t ↦ let k = rw t at h in let p = message_there len (8 + n) (f n) w k in (omega arith, omega arith)
    ]

-- a partial message ends beyond the bytes that are there
sized_beyond :
    (len more n : ℕ) (end : Reading (Option Whole)) (f g : ℕ → Reading Meta) (w : Whole) → 8 ≤ len → len ≤ more
    → ((v : Whole) → end ≡ Ok (Some v) → (v.front ≡ 8) × (v.meta.body ≡ 0)) → ((k : ℕ) → 8 + k ≤ len → g k ≡ f k)
    → sized len end f n ≡ Ok None → sized more end g n ≡ Ok (Some w) → len < end_of w
sized_beyond len more n end f g w l h e s p q =
    elim (eq_cases n 0) [
      | inl t ↦ let i = rw t at p in let j = rw t at q in absurd (cc)
      | inr t ↦
          let i = rw t at p in
          let j = rw t at q in
          let there = message_there more (8 + n) (g n) w j in
          elim (lt_cases len (end_of w)) [
            | inl u ↦ u.1
            | inr u ↦
                let m : f n ≡ Ok w.meta = sym (s n (omega arith)) ∙ there.2 in
                let k = message_whole len (8 + n) (f n) w there.0 (omega arith) m in
                absurd (cc)
          ]
    ]

sizes_there :
    (len : ℕ) (size : Reading ℕ) (end : Reading (Option Whole)) (f : ℕ → Reading Meta) (w : Whole) → 8 ≤ len
    → ((v : Whole) → end ≡ Ok (Some v) → (v.front ≡ 8) × (v.meta.body ≡ 0)) → (size >>= sized len end f) ≡ Ok (Some w)
    → (8 ≤ w.front) × (end_of w ≤ len)
sizes_there len (Ok n) end f w l e h = sized_there len n end f w l e h
sizes_there len (Err fs) end f w l e h = absurd (cc)

pub staged_there :
    (len : ℕ) (size : Reading ℕ) (end : Reading (Option Whole)) (f : ℕ → Reading Meta) (w : Whole)
    → ((v : Whole) → end ≡ Ok (Some v) → (v.front ≡ 8) × (v.meta.body ≡ 0)) → staged len size end f ≡ Ok (Some w)
    → (8 ≤ w.front) × (end_of w ≤ len)
unfolding staged
staged_there len size end f w e h =
    elim (lt_cases len 8) [
      | inl t ↦ let k = rw t.0 at h in absurd (cc)
      | inr t ↦ let k = rw t.0 at h in sizes_there len size end f w t.1 e k
    ]

sizes_beyond :
    (len more : ℕ) (size : Reading ℕ) (end : Reading (Option Whole)) (f g : ℕ → Reading Meta) (w : Whole) → 8 ≤ len
    → len ≤ more
    → ((v : Whole) → end ≡ Ok (Some v) → (v.front ≡ 8) × (v.meta.body ≡ 0)) → ((k : ℕ) → 8 + k ≤ len → g k ≡ f k)
    → (size >>= sized len end f) ≡ Ok None → (size >>= sized more end g) ≡ Ok (Some w) → len < end_of w
sizes_beyond len more (Ok n) end f g w l h e s p q = sized_beyond len more n end f g w l h e s p q
sizes_beyond len more (Err fs) end f g w l h e s p q = absurd (cc)

pub staged_beyond :
    (len more : ℕ) (size other : Reading ℕ) (end : Reading (Option Whole)) (f g : ℕ → Reading Meta) (w : Whole)
    → len ≤ more
    → ((v : Whole) → end ≡ Ok (Some v) → (v.front ≡ 8) × (v.meta.body ≡ 0)) → (8 ≤ len → other ≡ size)
    → ((k : ℕ) → 8 + k ≤ len → g k ≡ f k) → staged len size end f ≡ Ok None → staged more other end g ≡ Ok (Some w)
    → len < end_of w
unfolding staged
staged_beyond len more size other end f g w h e o s p q =
    elim (lt_cases len 8) [
      | inl t ↦ let there = staged_there more other end g w e q in omega arith
      | inr t ↦
          let k : nat_lt more 8 ≡ false = not_lt more 8 (omega arith) in
          let P : Reading ℕ → Type 0 = λ c. (c >>= sized more end g) ≡ Ok (Some w) in
          let i = rw t.0 at p in
          let j = rw k at q in
          sizes_beyond len more size end f g w t.1 h e s i (subst P (o t.1) j)
    ]

-- what a whole message is: the end mark, or what its metadata means
sized_from :
    (len n : ℕ) (end : Reading (Option Whole)) (f : ℕ → Reading Meta) (w : Whole) → sized len end f n ≡ Ok (Some w)
    → (end ≡ Ok (Some w)) ⊎ ((k : ℕ) × (f k ≡ Ok w.meta))
sized_from len n end f w h =
    elim (eq_cases n 0) [
      | inl t ↦ let k = rw t at h in inl k
      | inr t ↦ let k = rw t at h in let p = message_there len (8 + n) (f n) w k in inr (n, p.2)
    ]

sizes_from :
    (len : ℕ) (size : Reading ℕ) (end : Reading (Option Whole)) (f : ℕ → Reading Meta) (w : Whole)
    → (size >>= sized len end f) ≡ Ok (Some w) → (end ≡ Ok (Some w)) ⊎ ((k : ℕ) × (f k ≡ Ok w.meta))
sizes_from len (Ok n) end f w h = sized_from len n end f w h
sizes_from len (Err fs) end f w h = absurd (cc)

pub staged_from :
    (len : ℕ) (size : Reading ℕ) (end : Reading (Option Whole)) (f : ℕ → Reading Meta) (w : Whole)
    → staged len size end f ≡ Ok (Some w) → (end ≡ Ok (Some w)) ⊎ ((k : ℕ) × (f k ≡ Ok w.meta))
unfolding staged
staged_from len size end f w h =
    elim (lt_cases len 8) [
      | inl t ↦ let k = rw t.0 at h in absurd (cc)
      | inr t ↦ let k = rw t.0 at h in sizes_from len size end f w k
    ]
