mod Capacity
