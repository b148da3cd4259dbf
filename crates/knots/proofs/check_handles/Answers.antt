-- `knots::check_handles` meets its contract: each branch tells the rows before its own.
use Rattle.knots.proofs.Refused.{few, no_cubic_lem, control-many, control-room, fit_many, fit_room}
use Rattle.knots.proofs.check_handles.Goals as goal

pub returns-then-handles-lt2 : goal.returns-then-handles-lt2
returns-then-handles-lt2 c = few _ _ c.if-handles-lt2.true

pub returns-then-handles-lt4 : goal.returns-then-handles-lt4
returns-then-handles-lt4 c = no_cubic_lem _ _ c.if-handles-lt2.false c.in-Control.is c.if-handles-lt4.true

pub returns-then-handles-gt66 : goal.returns-then-handles-gt66
returns-then-handles-gt66 c =
    control-many _ _ c.if-handles-lt2.false c.in-Control.is c.if-handles-lt4.false c.if-handles-gt66.true

pub returns-then-handles-gt64 : goal.returns-then-handles-gt64
returns-then-handles-gt64 c = fit_many _ _ c.if-handles-lt2.false c.in-Fit.is c.if-handles-gt64.true

pub returns-else-handles-gt66 : goal.returns-else-handles-gt66
returns-else-handles-gt66 c =
    control-room _ _ c.if-handles-lt2.false c.in-Control.is c.if-handles-lt4.false c.if-handles-gt66.false

pub returns-else-handles-gt64 : goal.returns-else-handles-gt64
returns-else-handles-gt64 c = fit_room _ _ c.if-handles-lt2.false c.in-Fit.is c.if-handles-gt64.false
