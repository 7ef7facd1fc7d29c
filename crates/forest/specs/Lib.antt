-- Forest == the definitions that the contracts cite
-- Roots  == the laws of the root
-- Joins  == what a find and a join do to "has the same root"
-- Lowest == a forest that starts from classes, each with its lowest number for root
-- Part   == a forest in a part of a longer list
pub mod Forest
pub mod Roots
pub mod Lowest
