use Rattle.std.proofs.Common.{ℕ, refl}
use Rattle.std.specs.Int.Bits.{bit_and, bit_or}
use Rattle.shared_words.specs.declared.act.Act.{Act}
use Rattle.shared_words.specs.declared.act.Act.TheVariants as act
use Rattle.race_run.specs.InnerRule.{opening_of}
use Rattle.race_run.proofs.StepLemmas.{ready_acted, ready_allows, ready_for, ready_low}
use Rattle.race_run.proofs.step.act_on.Goals as goal

pub load-requires : goal.load-requires
load-requires c =
    let r = c.requires.ready in
    let t : Act = act.Load c.in-Load.place in
    let ready = ready_for c.args.shared.now.table_id.words r.0 (opening_of c.args.shared.now.key) c.args.seat.now.me.0 r.1 c.args.act t c.in-Load.is r.2 in (
      c.requires.seat,
      ready_low c.args.shared.now.table_id.words (opening_of c.args.shared.now.key) c.args.seat.now.me.0 r.0 r.1 t ready,
      ready_allows c.args.shared.now.table_id.words c.args.shared.now.table_id.slots c.args.seat.now.id r.0 (opening_of c.args.shared.now.key) r.1 t c.args.seat.now.me (λ (n : ℕ). n) (λ (n : ℕ). n) ready (λ n. refl) (λ n. refl),
    )

pub returns-in-Load-clause-seat : goal.returns-in-Load-clause-seat
returns-in-Load-clause-seat c =
    let r = c.requires.ready in
    let t : Act = act.Load c.in-Load.place in
    let ready = ready_for c.args.shared.now.table_id.words r.0 (opening_of c.args.shared.now.key) c.args.seat.now.me.0 r.1 c.args.act t c.in-Load.is r.2 in
    (c.load.ensures.0, c.load.ensures.1, (ready_acted c.args.shared.now.table_id.words c.load.result r.0 (opening_of c.args.shared.now.key) r.1 t c.args.seat.now.me c.load.new.seat.me c.load.ensures.2 ready).1)

pub returns-in-Load-clause-acted : goal.returns-in-Load-clause-acted
returns-in-Load-clause-acted c =
    let t : Act = act.Load c.in-Load.place in
    λ d y first.
    (ready_acted c.args.shared.now.table_id.words c.load.result d (opening_of c.args.shared.now.key) y t c.args.seat.now.me c.load.new.seat.me c.load.ensures.2
    (ready_for c.args.shared.now.table_id.words d (opening_of c.args.shared.now.key) c.args.seat.now.me.0 y c.args.act t c.in-Load.is first)).0

pub store-requires : goal.store-requires
store-requires c =
    let r = c.requires.ready in
    let t : Act = act.Store c.in-Store.place c.in-Store.value in
    let ready = ready_for c.args.shared.now.table_id.words r.0 (opening_of c.args.shared.now.key) c.args.seat.now.me.0 r.1 c.args.act t c.in-Store.is r.2 in (
      c.requires.seat,
      ready_low c.args.shared.now.table_id.words (opening_of c.args.shared.now.key) c.args.seat.now.me.0 r.0 r.1 t ready,
      ready_allows c.args.shared.now.table_id.words c.args.shared.now.table_id.slots c.args.seat.now.id r.0 (opening_of c.args.shared.now.key) r.1 t c.args.seat.now.me (λ (n : ℕ). c.in-Store.value) (λ (n : ℕ). c.in-Store.value) ready (λ n. refl) (λ n. refl),
    )

pub returns-in-Store-clause-seat : goal.returns-in-Store-clause-seat
returns-in-Store-clause-seat c =
    let r = c.requires.ready in
    let t : Act = act.Store c.in-Store.place c.in-Store.value in
    let ready = ready_for c.args.shared.now.table_id.words r.0 (opening_of c.args.shared.now.key) c.args.seat.now.me.0 r.1 c.args.act t c.in-Store.is r.2 in
    (c.store.ensures.0, c.store.ensures.1, (ready_acted c.args.shared.now.table_id.words c.in-Store.value r.0 (opening_of c.args.shared.now.key) r.1 t c.args.seat.now.me c.store.new.seat.me c.store.ensures.2 ready).1)

pub returns-in-Store-clause-acted : goal.returns-in-Store-clause-acted
returns-in-Store-clause-acted c =
    let t : Act = act.Store c.in-Store.place c.in-Store.value in
    λ d y first.
    (ready_acted c.args.shared.now.table_id.words c.in-Store.value d (opening_of c.args.shared.now.key) y t c.args.seat.now.me c.store.new.seat.me c.store.ensures.2
    (ready_for c.args.shared.now.table_id.words d (opening_of c.args.shared.now.key) c.args.seat.now.me.0 y c.args.act t c.in-Store.is first)).0

pub fetch_or-requires : goal.fetch_or-requires
fetch_or-requires c =
    let r = c.requires.ready in
    let t : Act = act.Or c.in-Or.place c.in-Or.value in
    let ready = ready_for c.args.shared.now.table_id.words r.0 (opening_of c.args.shared.now.key) c.args.seat.now.me.0 r.1 c.args.act t c.in-Or.is r.2 in (
      c.requires.seat,
      ready_low c.args.shared.now.table_id.words (opening_of c.args.shared.now.key) c.args.seat.now.me.0 r.0 r.1 t ready,
      ready_allows c.args.shared.now.table_id.words c.args.shared.now.table_id.slots c.args.seat.now.id r.0 (opening_of c.args.shared.now.key) r.1 t c.args.seat.now.me (λ (n : ℕ). bit_or n c.in-Or.value) (λ (n : ℕ). n) ready (λ n. refl) (λ n. refl),
    )

pub returns-in-Or-clause-seat : goal.returns-in-Or-clause-seat
returns-in-Or-clause-seat c =
    let r = c.requires.ready in
    let t : Act = act.Or c.in-Or.place c.in-Or.value in
    let ready = ready_for c.args.shared.now.table_id.words r.0 (opening_of c.args.shared.now.key) c.args.seat.now.me.0 r.1 c.args.act t c.in-Or.is r.2 in
    (c.fetch_or.ensures.0, c.fetch_or.ensures.1, (ready_acted c.args.shared.now.table_id.words c.fetch_or.result r.0 (opening_of c.args.shared.now.key) r.1 t c.args.seat.now.me c.fetch_or.new.seat.me c.fetch_or.ensures.2 ready).1)

pub returns-in-Or-clause-acted : goal.returns-in-Or-clause-acted
returns-in-Or-clause-acted c =
    let t : Act = act.Or c.in-Or.place c.in-Or.value in
    λ d y first.
    (ready_acted c.args.shared.now.table_id.words c.fetch_or.result d (opening_of c.args.shared.now.key) y t c.args.seat.now.me c.fetch_or.new.seat.me c.fetch_or.ensures.2
    (ready_for c.args.shared.now.table_id.words d (opening_of c.args.shared.now.key) c.args.seat.now.me.0 y c.args.act t c.in-Or.is first)).0

pub fetch_and-requires : goal.fetch_and-requires
fetch_and-requires c =
    let r = c.requires.ready in
    let t : Act = act.And c.in-And.place c.in-And.value in
    let ready = ready_for c.args.shared.now.table_id.words r.0 (opening_of c.args.shared.now.key) c.args.seat.now.me.0 r.1 c.args.act t c.in-And.is r.2 in (
      c.requires.seat,
      ready_low c.args.shared.now.table_id.words (opening_of c.args.shared.now.key) c.args.seat.now.me.0 r.0 r.1 t ready,
      ready_allows c.args.shared.now.table_id.words c.args.shared.now.table_id.slots c.args.seat.now.id r.0 (opening_of c.args.shared.now.key) r.1 t c.args.seat.now.me (λ (n : ℕ). bit_and n c.in-And.value) (λ (n : ℕ). n) ready (λ n. refl) (λ n. refl),
    )

pub returns-in-And-clause-seat : goal.returns-in-And-clause-seat
returns-in-And-clause-seat c =
    let r = c.requires.ready in
    let t : Act = act.And c.in-And.place c.in-And.value in
    let ready = ready_for c.args.shared.now.table_id.words r.0 (opening_of c.args.shared.now.key) c.args.seat.now.me.0 r.1 c.args.act t c.in-And.is r.2 in
    (c.fetch_and.ensures.0, c.fetch_and.ensures.1, (ready_acted c.args.shared.now.table_id.words c.fetch_and.result r.0 (opening_of c.args.shared.now.key) r.1 t c.args.seat.now.me c.fetch_and.new.seat.me c.fetch_and.ensures.2 ready).1)

pub returns-in-And-clause-acted : goal.returns-in-And-clause-acted
returns-in-And-clause-acted c =
    let t : Act = act.And c.in-And.place c.in-And.value in
    λ d y first.
    (ready_acted c.args.shared.now.table_id.words c.fetch_and.result d (opening_of c.args.shared.now.key) y t c.args.seat.now.me c.fetch_and.new.seat.me c.fetch_and.ensures.2
    (ready_for c.args.shared.now.table_id.words d (opening_of c.args.shared.now.key) c.args.seat.now.me.0 y c.args.act t c.in-And.is first)).0
