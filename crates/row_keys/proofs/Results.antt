-- Clauses over `Ok` and `Err`, from one result to another.
use Rattle.std.specs.Prelude.{Result, Ok, Err, IfOk, IfErr, OnOk}

pub if_ok : {A E : Type 0} (P Q : A → Type 0) (r : Result A E) → ((a : A) → P a → Q a) → IfOk r P → IfOk r Q
if_ok P Q (Ok a) f h = f a h
if_ok P Q (Err e) f h = tt

pub on_ok : {A E : Type 0} (P : A → Type 0) (X : Type 0) (r : Result A E) → ((a : A) → P a → X) → IfOk r P → OnOk r X
on_ok P X (Ok a) f h = f a h
on_ok P X (Err e) f h = tt

pub if_both : {A E : Type 0} (P Q : A → Type 0) (X : Type 0) (r : Result A E) → ((a : A) → P a → X → Q a) → IfOk r P
    → OnOk r X → IfOk r Q
if_both P Q X (Ok a) f h x = f a h x
if_both P Q X (Err e) f h x = tt

pub if_err : {A E : Type 0} (P Q : E → Type 0) (r : Result A E) → ((e : E) → P e → Q e) → IfErr r P → IfErr r Q
if_err P Q (Ok a) f h = tt
if_err P Q (Err e) f h = f e h
